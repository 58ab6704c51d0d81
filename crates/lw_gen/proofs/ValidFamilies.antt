-- Validity of the families without a code, by their frames.
use Rattle.std.proofs.Common.{◌≡◌, ◌≤◌, ◌<◌, ◌↔◌, ℕ, zero, suc, true, false, [], ⊎_elim, ap, refl, sym, ◌∙◌, subst, arith}
use Rattle.std.proofs.lemmas.Bool.{false≢true}
use Rattle.lw_formula.specs.declared.logic.Logic.{Logic}
use Rattle.lw_formula.specs.declared.logic.Logic.TheVariants.{K, KT, S4, S5, GL, Grz, K4, KD}
use Rattle.lw_formula.specs.Formula.{Formula, impl, nec}
use Rattle.lw_formula.specs.FiniteModel.{FiniteModel, Sees}
use Rattle.lw_formula.specs.Class.{Class, IsReflexive, IsTransitive, IsIrreflexive}
use Rattle.lw_formula.specs.Truth.{IsTrueAt}
use Rattle.lw_formula.specs.Validity.{Valid}
use Rattle.lw_formula.proofs.ListMembers.{Contains-nil, Contains-cons_cases}
use Rattle.lw_formula.proofs.OneWorldModels.{loop, one_world-Class}
use Rattle.lw_fix.proofs.WorldInduction.{climb}
use Rattle.lw_gen.specs.declared.families.Family.TheVariants.{Transitive, Reflexive, Loeb}
use Rattle.lw_gen.specs.Families.{p, boxes, family_formula}
use Rattle.lw_gen.specs.Laws.{is_gl, TransitiveIsExact, ReflexiveIsExact, LoebIsExact}
use Rattle.lw_gen.proofs.ChainModels.{not_in_K, not_in_KT, not_in_KD, irreflexive_in_K, irreflexive_in_GL, irreflexive_in_K4}
use Rattle.lw_gen.proofs.EndlessPaths.{irreflexive_in_KD}

transitive_at : (m : FiniteModel) → IsTransitive m → (i w : ℕ) → 1 ≤ i → IsTrueAt m w (family_formula Transitive i)
transitive_at m up zero w l = absurd (omega (arith, l))
transitive_at m up (suc i) w l = λ all v s u t. all u (up w v u s t)

pub transitive_valid : TransitiveIsExact
transitive_valid K i l = (λ valid. absurd (not_in_K i valid), λ h. absurd (false≢true h))
transitive_valid KT i l = (λ valid. absurd (not_in_KT i valid), λ h. absurd (false≢true h))
transitive_valid S4 i l = (λ valid. refl, λ h m c w b. transitive_at m c.frame.1 i w l)
transitive_valid S5 i l = (λ valid. refl, λ h m c w b. transitive_at m c.frame.2 i w l)
transitive_valid GL i l = (λ valid. refl, λ h m c w b. transitive_at m c.frame.0 i w l)
transitive_valid Grz i l = (λ valid. refl, λ h m c w b. transitive_at m c.frame.1 i w l)
transitive_valid K4 i l = (λ valid. refl, λ h m c w b. transitive_at m c.frame i w l)
transitive_valid KD i l = (λ valid. absurd (not_in_KD i valid), λ h. absurd (false≢true h))

reflexive_at : (m : FiniteModel) → IsReflexive m → (i w : ℕ) → w < m.worlds → IsTrueAt m w (family_formula Reflexive i)
reflexive_at m own i w b = λ all. all w (own w b)

pub reflexive_valid : ReflexiveIsExact
reflexive_valid K i = (λ valid. absurd (irreflexive_in_K i valid), λ h. absurd (false≢true h))
reflexive_valid KT i = (λ valid. refl, λ h m c w b. reflexive_at m c.frame i w b)
reflexive_valid S4 i = (λ valid. refl, λ h m c w b. reflexive_at m c.frame.0 i w b)
reflexive_valid S5 i = (λ valid. refl, λ h m c w b. reflexive_at m c.frame.0 i w b)
reflexive_valid GL i = (λ valid. absurd (irreflexive_in_GL i valid), λ h. absurd (false≢true h))
reflexive_valid Grz i = (λ valid. refl, λ h m c w b. reflexive_at m c.frame.0 i w b)
reflexive_valid K4 i = (λ valid. absurd (irreflexive_in_K4 i valid), λ h. absurd (false≢true h))
reflexive_valid KD i = (λ valid. absurd (irreflexive_in_KD i valid), λ h. absurd (false≢true h))

-- Löb's formula on a, by induction over the worlds
loeb_at : (m : FiniteModel) → IsTransitive m → IsIrreflexive m → (a : Formula) (w : ℕ) → IsTrueAt m w (impl (nec (impl (nec a) a)) (nec a))
loeb_at m up apart a w =
    λ given v s. climb m up apart (λ u. Sees m w u → IsTrueAt m u a) (λ u ih t. given u t (λ x r. ih x r (up w u x t r))) v s

-- the one world that sees itself has no fact
bare : (i : ℕ) → ¬ IsTrueAt loop 0 (boxes i p)
bare zero h = Contains-nil _ h
bare (suc i) h = bare i (h 0 ((one_world-Class KT).frame 0 (omega arith)))

-- and no other world
alone : (v : ℕ) → Sees loop 0 v → v ≡ 0
alone v s = ⊎_elim (λ e. sym (ap (λ x. x.1) e)) (λ none. absurd (Contains-nil (0, v) none)) (Contains-cons_cases (0, 0) [] (0, v) s)

loop_refutes : (i : ℕ) → ¬ IsTrueAt loop 0 (family_formula Loeb i)
loop_refutes i h = bare (suc i) (h (λ v s more. absurd (bare (suc i) (subst (λ u. IsTrueAt loop u (boxes (suc i) p)) (alone v s) more))))

not_of : (logic : Logic) (i : ℕ) → Class logic loop → is_gl logic ≡ false → Valid logic (family_formula Loeb i) ↔ (is_gl logic ≡ true)
not_of logic i c other = (
  λ valid. absurd (loop_refutes i (valid loop c 0 (omega arith))),
  λ yes. absurd (false≢true (sym other ∙ yes)),
)

pub loeb_of_gl : LoebIsExact
loeb_of_gl K i = not_of K i (record { well_formed = (one_world-Class KT).well_formed; frame = tt }) refl
loeb_of_gl KT i = not_of KT i (one_world-Class KT) refl
loeb_of_gl S4 i = not_of S4 i (one_world-Class S4) refl
loeb_of_gl S5 i = not_of S5 i (one_world-Class S5) refl
loeb_of_gl GL i = (λ valid. refl, λ yes m c w b. loeb_at m c.frame.0 c.frame.1 (boxes i p) w)
loeb_of_gl Grz i = not_of Grz i (one_world-Class Grz) refl
loeb_of_gl K4 i = not_of K4 i (record { well_formed = (one_world-Class KT).well_formed; frame = (one_world-Class S4).frame.1 }) refl
loeb_of_gl KD i = not_of KD i (one_world-Class KD) refl
