-- The ids of outermost modal subformulas, and how they are found.
use Rattle.std.specs.Prelude.{◌≡◌, ℕ, ◌<◌, ◌+◌, ◌||◌, ◌&&◌, Bool, true, false, List, length, Contains, slice_set as set}
use Rattle.std.specs.List.{slice_index_or}
use Rattle.std.specs.Str.{bytes_eq}
use Rattle.lw_formula.specs.Formula.{Formula, letter, falsum, verum, neg, conj, disj, impl, equi, nec, poss, is_modal}
use Rattle.lw_formula.specs.Variables.{Occurs}
use Rattle.lw_pool.specs.declared.id.FormId.{FormId}
use Rattle.lw_pool.specs.declared.node.Node.{Node}
use Rattle.lw_pool.specs.declared.node.Node.TheVariants.{Var, Bot, Top, Not, And, Or, Imp, Iff, Nec, Poss}
use Rattle.lw_pool.specs.Region.{tree_at, IsLive, is_marked}
use Rattle.lw_fix.specs.Outermost.{IsOutermost, has_letter, outermost}

-- whether p has an occurrence in the formula under no modality
abbrev pub stands_bare : List ℕ → Formula → Bool
stands_bare p (letter q) = bytes_eq p q
stands_bare p falsum = false
stands_bare p verum = false
stands_bare p (neg a) = stands_bare p a
stands_bare p (conj a b) = stands_bare p a || stands_bare p b
stands_bare p (disj a b) = stands_bare p a || stands_bare p b
stands_bare p (impl a b) = stands_bare p a || stands_bare p b
stands_bare p (equi a b) = stands_bare p a || stands_bare p b
stands_bare p (nec a) = false
stands_bare p (poss a) = false

-- the ids are those of the outermost modal subformulas with p, each once
pub record AreOutermost (ts : List Formula) (p : List ℕ) (a : Formula) (ids : List FormId) : Type 0 where
  pub sound : (b : FormId) → Contains ids b → IsLive ts b × IsOutermost (tree_at ts b) a × Occurs p (tree_at ts b)
  pub each : (m : Formula) → IsOutermost m a → Occurs p m → (b : FormId) × Contains ids b × (tree_at ts b ≡ m)
  pub count : length ids ≡ length (outermost p a)

-- for each of the first n ids, whether p is in its formula
pub record IsLetterTable (ts : List Formula) (p : List ℕ) (n : ℕ) (letters : List Bool) : Type 0 where
  pub long : length letters ≡ n
  pub right : (b : FormId) (d : Bool) → b.0 < n → slice_index_or letters b.0 d ≡ has_letter p (tree_at ts b)

-- whether both tables have the formula, and it begins with a modality
abbrev pub is_wanted : List Formula → List Bool → List Bool → FormId → Bool
is_wanted ts marks letters b = (is_marked marks b.0 && is_marked letters b.0) && is_modal (tree_at ts b)

-- the marks, and those at the operands of what begins with no modality
abbrev pub with_bare_children : Node → List Bool → List Bool
with_bare_children (Var p) marks = marks
with_bare_children Bot marks = marks
with_bare_children Top marks = marks
with_bare_children (Not a) marks = set marks a.0 true
with_bare_children (And a b) marks = set (set marks a.0 true) b.0 true
with_bare_children (Or a b) marks = set (set marks a.0 true) b.0 true
with_bare_children (Imp a b) marks = set (set marks a.0 true) b.0 true
with_bare_children (Iff a b) marks = set (set marks a.0 true) b.0 true
with_bare_children (Nec a) marks = marks
with_bare_children (Poss a) marks = marks

-- the marked ids of modal formulas are those of the outermost modal subformulas of the formula at a
pub record AreBareMarks (ts : List Formula) (a : FormId) (marks : List Bool) : Type 0 where
  pub long : length marks ≡ a.0 + 1
  pub sound : (b : FormId) (m : Formula) → is_marked marks b.0 ≡ true → IsOutermost m (tree_at ts b) → IsOutermost m (tree_at ts a)
  pub each : (m : Formula) → IsOutermost m (tree_at ts a) → (b : FormId) × (is_marked marks b.0 ≡ true) × (tree_at ts b ≡ m)
