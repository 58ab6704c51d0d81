-- Saturated sets (downward saturated sets; Smullyan, First-Order Logic, chapter II): no rule but Step, Serial and Cut has anything left to do.
use Rattle.std.specs.Prelude.{ℕ, ◌⊎◌, IsTrue, ⊤}
use Rattle.lw_formula.specs.declared.logic.Logic.{Logic}
use Rattle.lw_formula.specs.declared.parts.Parts.{Parts}
use Rattle.lw_formula.specs.declared.parts.Parts.TheVariants.{One, Two, Nu}
use Rattle.lw_proof.specs.System.{Set, System}
use Rattle.lw_proof.specs.Derivation.{has_refl}
use Rattle.lw_closure.specs.Mapping.{OfBoth}
use Rattle.lw_closure.specs.Table.{Table}
use Rattle.lw_closure.specs.Items.{items}

-- the set has what One, Two and Refl could add for these components
abbrev pub IsServed : {I : Type 0} → Logic → Set I → Parts I → Type 0
IsServed L X (One a b) = OfBoth (λ c. IsTrue (X c)) (a, b)
IsServed L X (Two p q) = OfBoth (λ c. IsTrue (X c)) p ⊎ OfBoth (λ c. IsTrue (X c)) q
IsServed L X (Nu c) = IsTrue (has_refl L) → IsTrue (X c)
IsServed L X _ = ⊤

-- neither Close nor Absurd may be used on the set, and One, Two and Refl have nothing to add to it
pub record IsUnclosed {I : Type 0} (S : System I) (L : Logic) (X : Set I) : Type 0 where
  pub consistent : (s : I) → IsTrue (X s) → ¬ IsTrue (X (S.flip s))
  pub possible : (s : I) → IsTrue (X s) → ¬ IsTrue (S.is_absurd s)
  pub served : (s : I) → IsTrue (X s) → IsServed L X (S.parts s)

-- a label of items is unclosed
abbrev pub IsUnclosedLabel : Table → Set ℕ → Type 0
IsUnclosedLabel t X = IsUnclosed (items t) t.logic X
