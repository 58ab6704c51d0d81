-- The texts of values, and the length by which a printed value is measured.
use Rattle.std.specs.Prelude.{◌≡◌, ℕ, ◌+◌, ◌-◌, ◌*◌, ◌<◌, Bool, true, false, List, [], ◌∷◌, ◌++◌, length, codes, ⊤}
use Rattle.std.specs.Fmt.{decimal}
use Rattle.lw_formula.specs.declared.logic.Logic.{Logic}
use Rattle.lw_formula.specs.Logic.{word_of}
use Rattle.lw_formula.specs.Formula.{Formula}
use Rattle.lw_read.specs.Text.{text_of}
use Rattle.lw_cert.specs.Sheet.{Content, Steps, Table, lines}
use Rattle.lw_cert.specs.Certificates.{AreRowsOf}
use Rattle.lw_cert.specs.Written.{text_of_lines, IsOrdered}
use Rattle.lw_value.specs.Values.{Evidence, proved, refuted, Val, Vals, formula, truth, number, text, items, logic, certificate, naught, empty, item}

-- `yes` or `no`
abbrev pub truth_text : Bool → List ℕ
truth_text true = codes "yes"
truth_text false = codes "no"

-- the content of a certificate's text is what the evidence tells: the steps of its proof, or the rows of its model
abbrev pub Tells : Evidence Formula → Content → Type 0
Tells (proved P) (Steps t) = t ≡ P
Tells (refuted m w) (Table v rows) = (v ≡ w) × (w < m.worlds) × (m.worlds ≡ length rows) × AreRowsOf m rows
Tells _ _ = ⊥

-- the text is that of the certificate, without its last line feed
pub record IsCertificateText (l : Logic) (a : Formula) (e : Evidence Formula) (out : List ℕ) : Type 0 where
  pub content : Content
  pub tells : Tells e content
  pub ordered : IsOrdered content
  pub said : out ++ 10 ∷ [] ≡ text_of_lines (lines (record { logic = l; formula = a; content = content }))

-- each text behind the separator
abbrev pub each_behind : List ℕ → List (List ℕ) → List ℕ
each_behind separator [] = []
each_behind separator (t ∷ ts) = separator ++ t ++ each_behind separator ts

-- the texts with the separator between them
abbrev pub joined : List ℕ → List (List ℕ) → List ℕ
joined separator [] = []
joined separator (t ∷ ts) = t ++ each_behind separator ts

-- the text is the value's: a text has no quotes, and a list its items' texts between brackets, joined by `, `
abbrev mutual
  pub IsTextOf : Val Formula → List ℕ → Type 0
  IsTextOf (formula a) out = out ≡ text_of a
  IsTextOf (truth b) out = out ≡ truth_text b
  IsTextOf (number n) out = out ≡ decimal n
  IsTextOf (text bytes) out = out ≡ bytes
  IsTextOf (items vs) out = (ts : List (List ℕ)) × AreTextsOf vs ts × (out ≡ codes "[" ++ joined (codes ", ") ts ++ codes "]")
  IsTextOf (logic l) out = out ≡ word_of l
  IsTextOf (certificate l a e) out = IsCertificateText l a e out
  IsTextOf naught out = out ≡ codes "none"

  pub AreTextsOf : Vals Formula → List (List ℕ) → Type 0
  AreTextsOf empty [] = ⊤
  AreTextsOf (item v vs) (t ∷ ts) = IsTextOf v t × AreTextsOf vs ts
  AreTextsOf _ _ = ⊥

-- what is printed of the values: their texts, joined by a space, and a line feed
abbrev pub IsLineOf : Vals Formula → List ℕ → Type 0
IsLineOf vs out = (ts : List (List ℕ)) × AreTextsOf vs ts × (out ≡ joined (codes " ") ts ++ codes "\n")

-- how many items there are
abbrev pub count_of : {A : Type 0} → Vals A → ℕ
count_of empty = 0
count_of (item v vs) = count_of vs + 1

-- the length of the text; a certificate is measured by its formula's, a list by its items' and by its brackets and its
-- commas with their spaces
abbrev mutual
  pub measure_of : Val Formula → ℕ
  measure_of (formula a) = length (text_of a)
  measure_of (truth b) = length (truth_text b)
  measure_of (number n) = length (decimal n)
  measure_of (text bytes) = length bytes
  measure_of (items vs) = 2 + 2 * (count_of vs - 1) + total_of vs
  measure_of (logic l) = length (word_of l)
  measure_of (certificate l a e) = length (text_of a)
  measure_of naught = length (codes "none")

  pub total_of : Vals Formula → ℕ
  total_of empty = 0
  total_of (item v vs) = measure_of v + total_of vs

-- the measured length of what is printed of the values: theirs, and the spaces between them
abbrev pub line_measure : Vals Formula → ℕ
line_measure vs = total_of vs + (count_of vs - 1)
