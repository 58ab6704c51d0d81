-- What holds of texts of values as a whole.
use Rattle.std.specs.Prelude.{◌≡◌, ℕ, List}
use Rattle.lw_formula.specs.Formula.{Formula}
use Rattle.lw_value.specs.Values.{Val, Vals}
use Rattle.lw_value.specs.ValueTexts.{IsTextOf, IsLineOf}

-- the value has at most one text
abbrev pub HasOneText : Val Formula → Type 0
HasOneText v = (text other : List ℕ) → IsTextOf v text → IsTextOf v other → text ≡ other

-- at most one line is printed of the values
abbrev pub HasOneLine : Vals Formula → Type 0
HasOneLine vs = (line other : List ℕ) → IsLineOf vs line → IsLineOf vs other → line ≡ other
