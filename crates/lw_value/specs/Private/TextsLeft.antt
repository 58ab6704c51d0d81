-- What is left to be written of a value's text, and what each step writes.
use Rattle.std.specs.Prelude.{◌≡◌, ℕ, ◌+◌, ◌-◌, ◌*◌, ◌<◌, ◌≤◌, List, [], ◌∷◌, ◌++◌, length, map, codes, ⊤}
use Rattle.lw_formula.specs.declared.logic.Logic.{Logic}
use Rattle.lw_formula.specs.Formula.{Formula}
use Rattle.lw_pool.specs.declared.id.FormId.{FormId}
use Rattle.lw_pool.specs.Region.{tree_at}
use Rattle.lw_read.specs.Text.{text_of}
use Rattle.lw_value.specs.declared.text.Work.{Work}
use Rattle.lw_value.specs.declared.text.Work.TheVariants as work
use Rattle.lw_value.specs.Values.{Evidence, Val, Vals, weight, weights, seen, seen_all, AreLive, AreItemsLive}
use Rattle.lw_value.specs.Evidence.{HasWorld, EachCertificate, EachOfCertificates}
use Rattle.lw_value.specs.ValueTexts.{IsTextOf, AreTextsOf, each_behind, joined}
use Rattle.lw_value.specs.Views.{value_of, values_of}

-- some text that has P was put behind the old bytes
pub record Appends (P : List ℕ → Type 0) (old new : List ℕ) : Type 0 where
  pub out : List ℕ
  pub is : P out
  pub put : new ≡ old ++ out

-- the values' texts with the separator between them
pub record IsJoinOf (separator : List ℕ) (vs : Vals Formula) (out : List ℕ) : Type 0 where
  pub texts : List (List ℕ)
  pub are : AreTextsOf vs texts
  pub is : out ≡ joined separator texts

-- the values' texts, each behind the separator, and then the end
pub record AreBehind (separator end : List ℕ) (vs : Vals Formula) (out : List ℕ) : Type 0 where
  pub texts : List (List ℕ)
  pub are : AreTextsOf vs texts
  pub is : out ≡ each_behind separator texts ++ end

-- the certificate's world is one of its model's, and its formula has no longer text than may be printed
abbrev pub IsPrintable : List Formula → Logic → FormId → Evidence FormId → Type 0
IsPrintable ts l a e = HasWorld l a e × (length (text_of (tree_at ts a)) ≤ 1048576)

-- the pool has the value's ids, and its certificates can be printed
abbrev pub CanPrint : List Formula → Val FormId → Type 0
CanPrint ts v = AreLive ts v × EachCertificate (IsPrintable ts) v

abbrev pub CanPrintAll : List Formula → Vals FormId → Type 0
CanPrintAll ts vs = AreItemsLive ts vs × EachOfCertificates (IsPrintable ts) vs

-- a value, or the items of a list behind one that is written, with the closing bracket
pub data Part : Type 0 where
  whole : Val FormId → Part
  rest : Vals FormId → Part

abbrev pub part_of : Work → Part
part_of (work.Whole v) = whole (value_of v.now)
part_of (work.Rest vs) = rest (values_of vs.now)

abbrev pub parts_of : List Work → List Part
parts_of ws = map part_of ws

abbrev pub CanPrintPart : List Formula → Part → Type 0
CanPrintPart ts (whole v) = CanPrint ts v
CanPrintPart ts (rest vs) = CanPrintAll ts vs

abbrev pub CanPrintParts : List Formula → List Part → Type 0
CanPrintParts ts [] = ⊤
CanPrintParts ts (p ∷ ps) = CanPrintPart ts p × CanPrintParts ts ps

-- the text is that of the part
abbrev pub IsTextOfPart : List Formula → Part → List ℕ → Type 0
IsTextOfPart ts (whole v) out = IsTextOf (seen ts v) out
IsTextOfPart ts (rest vs) out = AreBehind (codes ", ") (codes "]") (seen_all ts vs) out

-- the text is that of all parts, the last one first
abbrev pub IsTextLeft : List Formula → List Part → List ℕ → Type 0
IsTextLeft ts [] out = out ≡ []
IsTextLeft ts (p ∷ ps) out = (front : List ℕ) × (back : List ℕ) × IsTextLeft ts ps front × IsTextOfPart ts p back × (out ≡ front ++ back)

-- the steps that a part takes at most
abbrev pub effort : Part → ℕ
effort (whole v) = 3 * weight v - 1
effort (rest vs) = 3 * weights vs + 1

abbrev pub efforts : List Part → ℕ
efforts [] = 0
efforts (p ∷ ps) = effort p + efforts ps

-- the part's text begins with these bytes, and what was put on the stack is the rest of it
pub record Writes (ts : List Formula) (p : Part) (old new : List ℕ) (before after : List Part) : Type 0 where
  pub first : List ℕ
  pub pushed : List Part
  pub put : new ≡ old ++ first
  pub waits : after ≡ before ++ pushed
  pub text : (out : List ℕ) → IsTextLeft ts pushed out → IsTextOfPart ts p (first ++ out)
  pub printable : CanPrintParts ts pushed
  pub less : efforts pushed < effort p

-- whatever is left makes the value's text with what was written
pub record Leads (ts : List Formula) (v : Val FormId) (old now : List ℕ) (ps : List Part) : Type 0 where
  pub written : List ℕ
  pub put : now ≡ old ++ written
  pub text : (out : List ℕ) → IsTextLeft ts ps out → IsTextOf (seen ts v) (written ++ out)
  pub printable : CanPrintParts ts ps
