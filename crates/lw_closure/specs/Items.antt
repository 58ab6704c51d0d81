-- The rules over the items of a closure.
use Rattle.std.specs.Prelude.{ℕ, zero, suc, Bool, false, ◌&&◌, ◌||◌, ◌==◌, nat_lt, nat_eq}
use Rattle.lw_formula.specs.declared.parts.Parts.{Parts}
use Rattle.lw_formula.specs.declared.parts.Parts.TheVariants.{Nu}
use Rattle.lw_proof.specs.System.{Set, System}
use Rattle.lw_proof.specs.Derivation.{Closed}
use Rattle.lw_proof.specs.Tree.{Tree}
use Rattle.lw_closure.specs.Table.{Table, item_count, entry_at, sign_of, flip_item}

-- whether some number below n passes the test
abbrev pub any_below : (ℕ → Bool) → ℕ → Bool
any_below test zero = false
any_below test (suc n) = test n || any_below test n

-- whether what has these components is a ν with the component i
abbrev pub is_nu_to : ℕ → Parts ℕ → Bool
is_nu_to i (Nu c) = c == i
is_nu_to i _ = false

-- the items of the table, as signed formulas
abbrev pub items : Table → System ℕ
items t = record {
  parts = λ i. (entry_at t i).parts;
  flip = flip_item;
  guard = λ i. (entry_at t i).guard;
  sign = sign_of;
  is_absurd = λ i. (entry_at t i).absurd;
  same = nat_eq;
  under = λ X i. any_below (λ j. X j && is_nu_to i (entry_at t j).parts) (item_count t);
}

-- what may be cut: every item, since in the logic that cuts a closure has the goal's subformulas alone
abbrev pub cuts : Table → Set ℕ
cuts t i = nat_lt i (item_count t)

-- the proof closes the set of items by the calculus of the table's logic
abbrev pub ItemDerives : Table → Set ℕ → Tree ℕ → Type 0
ItemDerives t X P = Closed (items t) (cuts t) t.logic X P
