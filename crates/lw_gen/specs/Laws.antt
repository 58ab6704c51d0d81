-- In which logics the formulas of the three families without a code are valid.
use Rattle.std.specs.Prelude.{◌≡◌, ◌≤◌, ◌↔◌, ℕ, Bool, true, false}
use Rattle.lw_formula.specs.declared.logic.Logic.{Logic}
use Rattle.lw_formula.specs.declared.logic.Logic.TheVariants.{K, KT, S4, S5, GL, Grz, K4, KD}
use Rattle.lw_formula.specs.Validity.{Valid}
use Rattle.lw_gen.specs.declared.families.Family.TheVariants.{Transitive, Reflexive, Loeb}
use Rattle.lw_gen.specs.Families.{family_formula}

-- the logics of transitive frames
abbrev pub is_transitive : Logic → Bool
is_transitive K = false
is_transitive KT = false
is_transitive S4 = true
is_transitive S5 = true
is_transitive GL = true
is_transitive Grz = true
is_transitive K4 = true
is_transitive KD = false

-- the logics of reflexive frames
abbrev pub is_reflexive : Logic → Bool
is_reflexive K = false
is_reflexive KT = true
is_reflexive S4 = true
is_reflexive S5 = true
is_reflexive GL = false
is_reflexive Grz = true
is_reflexive K4 = false
is_reflexive KD = false

-- the logic of Löb's formula
abbrev pub is_gl : Logic → Bool
is_gl K = false
is_gl KT = false
is_gl S4 = false
is_gl S5 = false
is_gl GL = true
is_gl Grz = false
is_gl K4 = false
is_gl KD = false

-- from 1 on each formula of the family is valid in the logics of transitive frames, and in no other of the eight
abbrev pub TransitiveIsExact : Type 0
TransitiveIsExact = (logic : Logic) (i : ℕ) → 1 ≤ i → Valid logic (family_formula Transitive i) ↔ (is_transitive logic ≡ true)

-- each formula of the family is valid in the logics of reflexive frames, and in no other of the eight
abbrev pub ReflexiveIsExact : Type 0
ReflexiveIsExact = (logic : Logic) (i : ℕ) → Valid logic (family_formula Reflexive i) ↔ (is_reflexive logic ≡ true)

-- each formula of the family is valid in GL, and in no other of the eight
abbrev pub LoebIsExact : Type 0
LoebIsExact = (logic : Logic) (i : ℕ) → Valid logic (family_formula Loeb i) ↔ (is_gl logic ≡ true)
