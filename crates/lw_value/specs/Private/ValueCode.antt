-- The code of values of ids, by which `Items` and `Env` have them for their `Value`.
use Rattle.std.specs.Prelude.{◌≡◌, ℕ, ◌==◌, Bool, true, false, if◌then◌else◌, List, [], ◌∷◌}
use Rattle.std.proofs.Common.{refl, sym, ap, ◌∙◌}
use base.Stored.{Gv, gnil, gnum, gcons, num, Coded}
use Rattle.lw_formula.specs.declared.sign.Sign.{Sign}
use Rattle.lw_formula.specs.declared.logic.Logic.{Logic}
use Rattle.lw_formula.specs.FiniteModel.{FiniteModel}
use Rattle.lw_formula.specs.Private.FormulaCode.{bytes_code, bytes_back, bytes_back-bytes_code}
use Rattle.lw_pool.specs.declared.id.FormId.{FormId}
use Rattle.lw_pool.specs.declared.id.SignedId.{SignedId}
use Rattle.lw_proof.specs.Tree.{Tree, Forest, node, none, more, map_tree, map_forest}
use Rattle.lw_proof.specs.Private.TreeCode.{tree_code, tree_back, tree_back-tree_code}
use Rattle.lw_value.specs.Values.{Evidence, proved, refuted, Val, Vals, formula, truth, number, text, items, logic, certificate, naught, empty, item}
use Rattle.lw_value.specs.Certified.{pair_of}

-- the number that stands for the truth value
abbrev pub truth_number : Bool → ℕ
truth_number false = 0
truth_number true = 1

-- the truth value for which the number stands
abbrev pub numbered_truth : ℕ → Bool
numbered_truth k = if k == 0 then false else true

pub numbered_truth-truth_number : (b : Bool) → numbered_truth (truth_number b) ≡ b
numbered_truth-truth_number false = refl
numbered_truth-truth_number true = refl

-- the number that stands for the logic
abbrev pub logic_number : Logic → ℕ
logic_number Logic.K = 0
logic_number Logic.KT = 1
logic_number Logic.S4 = 2
logic_number Logic.S5 = 3
logic_number Logic.GL = 4
logic_number Logic.Grz = 5
logic_number Logic.K4 = 6
logic_number Logic.KD = 7

-- the logic for which the number stands; a number that stands for none gives K
abbrev pub numbered_logic : ℕ → Logic
numbered_logic k =
    if k == 0 then Logic.K else
    if k == 1 then Logic.KT else
    if k == 2 then Logic.S4 else
    if k == 3 then Logic.S5 else
    if k == 4 then Logic.GL else
    if k == 5 then Logic.Grz else
    if k == 6 then Logic.K4 else
    if k == 7 then Logic.KD else Logic.K

pub numbered_logic-logic_number : (l : Logic) → numbered_logic (logic_number l) ≡ l
numbered_logic-logic_number Logic.K = refl
numbered_logic-logic_number Logic.KT = refl
numbered_logic-logic_number Logic.S4 = refl
numbered_logic-logic_number Logic.S5 = refl
numbered_logic-logic_number Logic.GL = refl
numbered_logic-logic_number Logic.Grz = refl
numbered_logic-logic_number Logic.K4 = refl
numbered_logic-logic_number Logic.KD = refl

-- the code of a model's pairs
abbrev pub pairs_code : List (ℕ × ℕ) → Gv
pairs_code [] = gnil
pairs_code (p ∷ ps) = gcons (gcons (gnum p.0) (gnum p.1)) (pairs_code ps)

abbrev pub pairs_back : Gv → List (ℕ × ℕ)
pairs_back (gcons (gcons a b) ps) = (num a, num b) ∷ pairs_back ps
pairs_back _ = []

pub pairs_back-pairs_code : (ps : List (ℕ × ℕ)) → pairs_back (pairs_code ps) ≡ ps
pairs_back-pairs_code [] = refl
pairs_back-pairs_code (p ∷ ps) = ap (λ qs. p ∷ qs) (pairs_back-pairs_code ps)

-- the code of a model's facts
abbrev pub facts_code : List (ℕ × List ℕ) → Gv
facts_code [] = gnil
facts_code (f ∷ fs) = gcons (gcons (gnum f.0) (bytes_code f.1)) (facts_code fs)

abbrev pub facts_back : Gv → List (ℕ × List ℕ)
facts_back (gcons (gcons a b) fs) = (num a, bytes_back b) ∷ facts_back fs
facts_back _ = []

pub facts_back-facts_code : (fs : List (ℕ × List ℕ)) → facts_back (facts_code fs) ≡ fs
facts_back-facts_code [] = refl
facts_back-facts_code (f ∷ fs) = λ i. (f.0, bytes_back-bytes_code f.1 i) ∷ facts_back-facts_code fs i

-- the code of a model
abbrev pub model_code : FiniteModel → Gv
model_code m = gcons (gnum m.worlds) (gcons (pairs_code m.pairs) (facts_code m.facts))

abbrev pub model_back : Gv → FiniteModel
model_back (gcons n (gcons ps fs)) = record { worlds = num n; pairs = pairs_back ps; facts = facts_back fs }
model_back _ = record { worlds = 0; pairs = []; facts = [] }

pub model_back-model_code : (m : FiniteModel) → model_back (model_code m) ≡ m
model_back-model_code m = λ i. record { worlds = m.worlds; pairs = pairs_back-pairs_code m.pairs i; facts = facts_back-facts_code m.facts i }

-- a pair as a signed id
abbrev pub id_of : Sign × FormId → SignedId
id_of s = record { sign = s.0; form = s.1 }

mutual
  pub pairs-ids : (t : Tree (Sign × FormId)) → map_tree pair_of (map_tree id_of t) ≡ t
  pairs-ids (node r s ts) = λ i. node r s (all-pairs-ids ts i)

  pub all-pairs-ids : (ts : Forest (Sign × FormId)) → map_forest pair_of (map_forest id_of ts) ≡ ts
  all-pairs-ids none = refl
  all-pairs-ids (more t ts) = λ i. more (pairs-ids t i) (all-pairs-ids ts i)

-- the code of evidence
abbrev pub evidence_code : Evidence FormId → Gv
evidence_code (proved t) = gcons (gnum 0) (tree_code (map_tree id_of t))
evidence_code (refuted m w) = gcons (gnum 1) (gcons (model_code m) (gnum w))

-- the evidence of the kind with this number
abbrev pub shaped_evidence : ℕ → Gv → Evidence FormId
shaped_evidence k (gcons m w) = if k == 0 then proved (map_tree pair_of (tree_back (gcons m w))) else refuted (model_back m) (num w)
shaped_evidence k g = proved (map_tree pair_of (tree_back g))

abbrev pub evidence_back : Gv → Evidence FormId
evidence_back (gcons k g) = shaped_evidence (num k) g
evidence_back g = shaped_evidence 0 g

pub evidence_back-evidence_code : (e : Evidence FormId) → evidence_back (evidence_code e) ≡ e
evidence_back-evidence_code (proved (node r s ts)) = ap proved (ap (map_tree pair_of) (tree_back-tree_code (map_tree id_of (node r s ts))) ∙ pairs-ids (node r s ts))
evidence_back-evidence_code (refuted m w) = ap (λ n. refuted n w) (model_back-model_code m)

-- a number for the kind, then what stands below it
abbrev mutual
  pub val_code : Val FormId → Gv
  val_code (formula a) = gcons (gnum 0) (gcons (gnum a.0) gnil)
  val_code (truth b) = gcons (gnum 1) (gcons (gnum (truth_number b)) gnil)
  val_code (number n) = gcons (gnum 2) (gcons (gnum n) gnil)
  val_code (text bytes) = gcons (gnum 3) (gcons gnil (bytes_code bytes))
  val_code (items vs) = gcons (gnum 4) (gcons gnil (vals_code vs))
  val_code (logic l) = gcons (gnum 5) (gcons (gnum (logic_number l)) gnil)
  val_code (certificate l a e) = gcons (gnum 6) (gcons (gnum (logic_number l)) (gcons (gnum a.0) (evidence_code e)))
  val_code naught = gcons (gnum 7) (gcons gnil gnil)

  pub vals_code : Vals FormId → Gv
  vals_code empty = gnil
  vals_code (item v vs) = gcons (val_code v) (vals_code vs)

abbrev pub id_numbered : ℕ → FormId
id_numbered n = record { 0 = n }

abbrev pub certificate_back : ℕ → Gv → Val FormId
certificate_back n (gcons a e) = certificate (numbered_logic n) (id_numbered (num a)) (evidence_back e)
certificate_back n _ = naught

-- the value of the kind with this number
abbrev pub shaped_value : ℕ → ℕ → Gv → Vals FormId → Val FormId
shaped_value k n g vs =
    if k == 0 then formula (id_numbered n) else
    if k == 1 then truth (numbered_truth n) else
    if k == 2 then number n else
    if k == 3 then text (bytes_back g) else
    if k == 4 then items vs else
    if k == 5 then logic (numbered_logic n) else
    if k == 6 then certificate_back n g else naught

abbrev mutual
  pub val_back : Gv → Val FormId
  val_back (gcons k (gcons n g)) = shaped_value (num k) (num n) g (vals_back g)
  val_back _ = naught

  pub vals_back : Gv → Vals FormId
  vals_back (gcons g gs) = item (val_back g) (vals_back gs)
  vals_back _ = empty

mutual
  pub val_back-val_code : (v : Val FormId) → val_back (val_code v) ≡ v
  val_back-val_code (formula a) = refl
  val_back-val_code (truth b) = ap truth (numbered_truth-truth_number b)
  val_back-val_code (number n) = refl
  val_back-val_code (text bytes) = ap text (bytes_back-bytes_code bytes)
  val_back-val_code (items vs) = ap items (vals_back-vals_code vs)
  val_back-val_code (logic l) = ap logic (numbered_logic-logic_number l)
  val_back-val_code (certificate l a e) = λ i. certificate (numbered_logic-logic_number l i) a (evidence_back-evidence_code e i)
  val_back-val_code naught = refl

  pub vals_back-vals_code : (vs : Vals FormId) → vals_back (vals_code vs) ≡ vs
  vals_back-vals_code empty = refl
  vals_back-vals_code (item v vs) = λ i. item (val_back-val_code v i) (vals_back-vals_code vs i)

-- values are told apart by their codes
abbrev pub coded_val : Coded (Val FormId)
coded_val = record {
  code = val_code;
  inj = λ v w p. sym (val_back-val_code v) ∙ ap val_back p ∙ val_back-val_code w;
}
