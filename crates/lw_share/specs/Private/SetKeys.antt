-- The keys by which the sets of lines are looked up. In one pool lists of ids stand for one set exactly where their keys are equal.
use Rattle.std.specs.Prelude.{ℕ, ◌↔◌, Contains, List}
use Rattle.std.specs.List.{AllZip}
use Rattle.std.specs.List.Sorted.{IsStrictlyIncreasing}
use Rattle.lw_formula.specs.declared.sign.Sign.{Sign}
use Rattle.lw_formula.specs.declared.sign.Sign.TheVariants.{T, F}
use Rattle.lw_pool.specs.declared.id.SignedId.{SignedId}
use Rattle.lw_share.specs.Lines.{Line}
use Rattle.lw_share.specs.declared.key.SetKey.{SetKey}

-- the numbers of the formulas that the items have under the sign, ascending
pub record AreFormsUnder (items : List SignedId) (sign : Sign) (forms : List ℕ) : Type 0 where
  pub exact : (n : ℕ) → Contains forms n ↔ Contains items (record { sign = sign; form = record { 0 = n } })
  pub ascending : IsStrictlyIncreasing forms

-- the key has the formulas of the items under T, and those under F
pub record IsKeyOf (items : List SignedId) (key : SetKey) : Type 0 where
  pub under_t : AreFormsUnder items T key.under_t.items
  pub under_f : AreFormsUnder items F key.under_f.items

-- the keys are those of the sets of the lines, in order
abbrev pub AreKeysOf : List (Line SignedId) → List SetKey → Type 0
AreKeysOf table keys = AllZip (λ line key. IsKeyOf line.members key) table keys
