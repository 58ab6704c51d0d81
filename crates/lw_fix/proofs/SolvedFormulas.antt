-- The fixed points that are kept by the ids of their formulas, as the pool grows.
use Rattle.std.proofs.Common.{◌≡◌, ℕ, Bool, true, false, List, [], ◌∷◌, ◌++◌, Some, if◌then◌else◌, get_or, eqb-true, refl, sym, subst, ◌∙◌, arith}
use Rattle.std.specs.Map.{lookup}
use Rattle.std.proofs.lemmas.List.Elements.{All-cons, All-contains}
use Rattle.std.proofs.lemmas.Map.Views.{Contains-from_lookup}
use Rattle.indexmap.specs.IndexMap.{insert_entry}
use Rattle.lw_formula.specs.Formula.{Formula}
use Rattle.lw_formula.proofs.ListMembers.{All-members, Contains-head, Contains-tail}
use Rattle.lw_pool.specs.declared.id.FormId.{FormId}
use Rattle.lw_pool.specs.contracts.id.FormIdPartialEq.TheImpl as derived
use Rattle.lw_pool.specs.Region.{tree_at, IsLive, IsAt, Grows}
use Rattle.lw_pool.proofs.RegionGrowth.{IsAt-grows, Grows-trans}
use Rattle.lw_fix.specs.declared.image.Image.{Image}
use Rattle.lw_fix.specs.FixedPoint.{default_of, fix}
use Rattle.lw_fix.specs.Private.Solved.{AreBoxes, AreSolved}
use Rattle.lw_fix.proofs.BoxImages.{front, rest_of, rest_of-grows}

-- the map of what is solved
abbrev form_eq : FormId → FormId → Bool
form_eq = derived.ghosts.eq

form_eq-same : (a b : FormId) → form_eq a b ≡ true → a ≡ b
form_eq-same a b e = let n : a.0 ≡ b.0 = eqb-true a.0 b.0 e in λ i. record { 0 = n i }

abbrev IsSolved : List Formula → List ℕ → FormId × FormId → Type 0
IsSolved ts p e = IsLive ts e.0 × IsAt ts (fix p (tree_at ts e.0)) e.1

pub AreSolved-grows : (old new : List Formula) (p : List ℕ) (entries : List (FormId × FormId)) → Grows old new → AreSolved old p entries → AreSolved new p entries
AreSolved-grows old new p entries g h =
    λ k d l.
    let at = h k d l in
    let e = get_or entries k d in
    let v : IsLive old e.0 = at.0 in
    (omega (arith, v, g.longer), subst (λ t. IsAt new (fix p t) e.1) (sym (g.same e.0 v)) (IsAt-grows old new (fix p (tree_at old e.0)) e.1 g at.1))

-- the formula at the id and its fixed point are put in
pub AreSolved-insert : (ts : List Formula) (p : List ℕ) (entries : List (FormId × FormId)) (id point : FormId) → AreSolved ts p entries → IsSolved ts p (id, point) →
    AreSolved ts p (insert_entry form_eq entries id point)
AreSolved-insert ts p [] id point h own = All-cons (IsSolved ts p) (id, point) [] own h
AreSolved-insert ts p (e ∷ entries) id point h own = by_test (form_eq id e.0) (form_eq-same id e.0) (AreSolved-insert ts p entries id point rest own)
  where
    rest : AreSolved ts p entries
    rest = All-members (IsSolved ts p) entries (λ x c. All-contains (IsSolved ts p) (e ∷ entries) x h (Contains-tail e entries x c))

    by_test : (t : Bool) → (t ≡ true → id ≡ e.0) → AreSolved ts p (insert_entry form_eq entries id point) →
        AreSolved ts p (if t then (e.0, point) ∷ entries else e ∷ insert_entry form_eq entries id point)
    by_test true same all = All-cons (IsSolved ts p) (e.0, point) entries (subst (λ (k : FormId). IsSolved ts p (k, point)) (same refl) own) rest
    by_test false same all =
        All-cons (IsSolved ts p) e (insert_entry form_eq entries id point) (All-contains (IsSolved ts p) (e ∷ entries) e h (Contains-head e entries)) all

-- a formula whose fixed point is kept
pub kept-right : (ts : List Formula) (p : List ℕ) (entries : List (FormId × FormId)) (id point : FormId) → AreSolved ts p entries → lookup (form_eq id) entries ≡ Some point →
    IsAt ts (fix p (tree_at ts id)) point
kept-right ts p entries id point h e = (All-contains (IsSolved ts p) entries (id, point) h (Contains-from_lookup form_eq-same id point entries e)).1

-- the fixed point of the rest is kept
pub kept-point : (old ts : List Formula) (p : List ℕ) (id rest point : FormId) (taken left : List Image) (entries : List (FormId × FormId)) → Grows old ts →
    AreBoxes old p (tree_at old id) (taken ++ left) → AreSolved old p entries → IsAt ts (rest_of ts taken (tree_at old id)) rest → lookup (form_eq rest) entries ≡ Some point →
    IsAt ts (fix p (rest_of old taken (tree_at old id))) point
kept-point old ts p id rest point taken left entries g boxes solved at e =
    subst (λ (t : Formula). IsAt ts (fix p t) point) (at.1 ∙ sym (rest_of-grows old ts taken (tree_at old id) g (front default_of old taken left boxes.right)))
    (kept-right ts p entries rest point (AreSolved-grows old ts p entries g solved) e)

-- it is put to those that are kept
pub kept-more : (old mid now new : List Formula) (p : List ℕ) (id rest point : FormId) (taken left : List Image) (entries : List (FormId × FormId)) →
    Grows old mid → Grows mid now → Grows now new → AreBoxes old p (tree_at old id) (taken ++ left) → IsAt mid (rest_of mid taken (tree_at old id)) rest → AreSolved now p entries →
    IsAt new (fix p (rest_of old taken (tree_at old id))) point → AreSolved new p (insert_entry form_eq entries rest point)
kept-more old mid now new p id rest point taken left entries g h k boxes at solved made =
    let up = Grows-trans mid now new h k in
    let same : tree_at new rest ≡ rest_of old taken (tree_at old id) =
    up.same rest at.0 ∙ at.1 ∙ sym (rest_of-grows old mid taken (tree_at old id) g (front default_of old taken left boxes.right)) in
    AreSolved-insert new p entries rest point (AreSolved-grows now new p entries k solved)
    (omega (arith, at.0, up.longer), subst (λ (t : Formula). IsAt new (fix p t) point) (sym same) made)
