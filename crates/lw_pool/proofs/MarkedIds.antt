-- The ids that are marked, as a list.
use Rattle.std.proofs.Common.{◌≡◌, ◌↔◌, ℕ, ◌+◌, ◌<◌, suc, zero, inl, inr, Bool, true, false, List, [], ◌∷◌, length, get_or, map, filter, refl, sym, ap, subst, ◌∙◌, arith, Contains, AllPairs}
use Rattle.std.specs.List.{enumerate_from}
use Rattle.std.proofs.lemmas.Bool.{false≢true}
use Rattle.std.proofs.lemmas.List.{get_or-map, length-map}
use Rattle.std.proofs.lemmas.List.Kept.{AllPairs-cons}
use Rattle.std.proofs.lemmas.List.Elements.{Contains-get_or}
use Rattle.lw_formula.specs.FiniteModel.{AreDistinct}
use Rattle.lw_formula.specs.Formula.{Formula, IsSubformula, subformulas, subformula_count}
use Rattle.lw_formula.proofs.ListMembers.{Contains-nil, Contains-head, Contains-tail, Contains-cons_cases, All-members}
use Rattle.lw_formula.proofs.SubformulaLists.{subformulas-IsSubformula, subformulas-AreDistinct}
use Rattle.lw_pool.specs.declared.id.FormId.{FormId}
use Rattle.lw_pool.specs.Region.{tree_at, IsLive, AreIdsExact, AreOperandsBelow, AreSubformulas}
use Rattle.lw_pool.specs.Region.{is_marked, AreMarks}
use Rattle.lw_pool.proofs.SubformulasBelow.{subformula_id}
use Rattle.lw_pool.proofs.EqualLengths.{length-same_members}
use Rattle.lw_pool.proofs.SubformulaMarks.{within}

-- the ids that are marked, where n ids stand before the first mark
abbrev pub marked_from : ℕ → List Bool → List FormId
marked_from n marks = map (λ (p : ℕ × Bool). record { 0 = p.0 }) (filter (λ (p : ℕ × Bool). p.1) (enumerate_from n marks))

abbrev pub IsMarkedAt : ℕ → List Bool → FormId → Type 0
IsMarkedAt n marks b = (k : ℕ) × (b.0 ≡ n + k) × (is_marked marks k ≡ true)

later : (n : ℕ) (m : Bool) (marks : List Bool) (b : FormId) → IsMarkedAt (n + 1) marks b → IsMarkedAt n (m ∷ marks) b
later n m marks b h = (suc h.0, omega (arith, h.1), h.2)

pub marked_from-sound : (n : ℕ) (marks : List Bool) (b : FormId) → Contains (marked_from n marks) b → IsMarkedAt n marks b
marked_from-sound n [] b h = absurd (Contains-nil b h)
marked_from-sound n (true ∷ marks) b h =
    elim (Contains-cons_cases (record { 0 = n }) (marked_from (n + 1) marks) b h) [
      | inl e ↦ (zero, let f : n ≡ b.0 = ap (λ (x : FormId). x.0) e in omega arith, refl)
      | inr t ↦ later n true marks b (marked_from-sound (n + 1) marks b t)
    ]
marked_from-sound n (false ∷ marks) b h = later n false marks b (marked_from-sound (n + 1) marks b h)

same_id : (b : FormId) (n : ℕ) → n ≡ b.0 → record { 0 = n } ≡ b
same_id b n e = λ i. record { 0 = e i }

pub marked_from-complete : (n : ℕ) (marks : List Bool) (b : FormId) → IsMarkedAt n marks b → Contains (marked_from n marks) b
marked_from-complete n [] b h = absurd (false≢true h.2)
marked_from-complete n (true ∷ marks) b (zero, e, m) =
    subst (Contains (record { 0 = n } ∷ marked_from (n + 1) marks)) (same_id b n (omega arith)) (Contains-head (record { 0 = n }) (marked_from (n + 1) marks))
marked_from-complete n (true ∷ marks) b (suc k, e, m) =
    Contains-tail (record { 0 = n }) (marked_from (n + 1) marks) b (marked_from-complete (n + 1) marks b (k, omega arith, m))
marked_from-complete n (false ∷ marks) b (zero, e, m) = absurd (false≢true m)
marked_from-complete n (false ∷ marks) b (suc k, e, m) = marked_from-complete (n + 1) marks b (k, omega arith, m)

abbrev IsBefore : FormId → FormId → Type 0
IsBefore b c = b.0 < c.0

pub marked_from-ascending : (n : ℕ) (marks : List Bool) → AllPairs IsBefore (marked_from n marks)
marked_from-ascending n [] = λ i j d l m. absurd (omega arith)
marked_from-ascending n (true ∷ marks) =
    AllPairs-cons IsBefore (record { 0 = n }) (marked_from (n + 1) marks)
    (All-members (IsBefore (record { 0 = n })) (marked_from (n + 1) marks) (λ b h. let k = marked_from-sound (n + 1) marks b h in omega (arith, k.1)))
    (marked_from-ascending (n + 1) marks)
marked_from-ascending n (false ∷ marks) = marked_from-ascending (n + 1) marks

-- the marked ids are those of the subformulas
collected_exact : (ts : List Formula) (a : FormId) (marks : List Bool) → IsLive ts a → AreMarks ts a marks → (b : FormId) → Contains (marked_from 0 marks) b ↔ (IsLive ts b × IsSubformula (tree_at ts b) (tree_at ts a))
collected_exact ts a marks v m b = (
  λ h.
      let k = marked_from-sound 0 marks b h in
      let here : is_marked marks b.0 ≡ true = subst (λ (j : ℕ). is_marked marks j ≡ true) (omega (arith, k.1)) k.2 in
      let l : b.0 < length marks = within marks b.0 here in
      (omega (arith, m.long), m.sound b here),
  λ s. marked_from-complete 0 marks b (b.0, omega arith, m.complete b s.0 s.1),
)

collected_each : (ts : List Formula) (a : FormId) (marks : List Bool) → IsLive ts a → AreOperandsBelow ts → AreMarks ts a marks → (c : Formula) → IsSubformula c (tree_at ts a) →
    (b : FormId) × Contains (marked_from 0 marks) b × (tree_at ts b ≡ c)
collected_each ts a marks v o m c s =
    let b = subformula_id ts o a v c s in
    let vb : IsLive ts b.0 = omega (arith, b.1) in
    (b.0, (collected_exact ts a marks v m b.0).1 (vb, subst (λ (u : Formula). IsSubformula u (tree_at ts a)) (sym b.2) s), b.2)

pub collected : (ts : List Formula) (a : FormId) (marks : List Bool) → IsLive ts a → AreOperandsBelow ts → AreMarks ts a marks → AreSubformulas ts a (marked_from 0 marks)
collected ts a marks v o m = record {
  ascending = marked_from-ascending 0 marks;
  exact = collected_exact ts a marks v m;
  each = collected_each ts a marks v o m;
}

-- the formulas of the ids
abbrev pub formulas : List Formula → List FormId → List Formula
formulas ts ids = map (tree_at ts) ids

no_id : FormId
no_id = record { 0 = 0 }

formulas_distinct : (ts : List Formula) (a : FormId) (ids : List FormId) → AreIdsExact ts → AreSubformulas ts a ids → AreDistinct (formulas ts ids)
formulas_distinct ts a ids x s i j d l m e =
    let n : length (formulas ts ids) ≡ length ids = length-map ids (tree_at ts) in
    let mi : i < length ids = omega arith in
    let mj : j < length ids = omega arith in
    let b : FormId = get_or ids i no_id in
    let c : FormId = get_or ids j no_id in
    let eb : get_or (formulas ts ids) i d ≡ tree_at ts b = get_or-map (tree_at ts) ids i no_id d mi in
    let ec : get_or (formulas ts ids) j d ≡ tree_at ts c = get_or-map (tree_at ts) ids j no_id d mj in
    let vb : IsLive ts b = ((s.exact b).0 (Contains-get_or ids i no_id mi)).0 in
    let vc : IsLive ts c = ((s.exact c).0 (Contains-get_or ids j no_id mj)).0 in
    let same : b ≡ c = x b c vb vc (sym eb ∙ e ∙ ec) in
    let less : b.0 < c.0 = s.ascending i j no_id l mj in
    let num : b.0 ≡ c.0 = ap (λ (k : FormId). k.0) same in
    let bad : ⊥ = omega arith in bad

formulas_sound : (ts : List Formula) (a : FormId) (ids : List FormId) → AreSubformulas ts a ids → (c : Formula) → Contains (formulas ts ids) c → Contains (subformulas (tree_at ts a)) c
formulas_sound ts a ids s c h =
    let n : length (formulas ts ids) ≡ length ids = length-map ids (tree_at ts) in
    let m : h.0 < length ids = omega (arith, h.1) in
    let b : FormId = get_or ids h.0 no_id in
    let e : tree_at ts b ≡ c = sym (get_or-map (tree_at ts) ids h.0 no_id c m) ∙ h.2 in
    (subformulas-IsSubformula (tree_at ts a) c).1 (subst (λ (u : Formula). IsSubformula u (tree_at ts a)) e ((s.exact b).0 (Contains-get_or ids h.0 no_id m)).1)

formulas_complete : (ts : List Formula) (a : FormId) (ids : List FormId) → AreSubformulas ts a ids → (c : Formula) → Contains (subformulas (tree_at ts a)) c → Contains (formulas ts ids) c
formulas_complete ts a ids s c h =
    let b = s.each c ((subformulas-IsSubformula (tree_at ts a) c).0 h) in
    let k : Contains ids b.0 = b.1 in
    let n : length (formulas ts ids) ≡ length ids = length-map ids (tree_at ts) in
    (k.0, omega (arith, k.1), get_or-map (tree_at ts) ids k.0 b.0 c k.1 ∙ ap (tree_at ts) k.2 ∙ b.2)

-- there are as many as distinct subformulas
pub subformulas_counted : (ts : List Formula) (a : FormId) (ids : List FormId) → AreIdsExact ts → AreSubformulas ts a ids → length ids ≡ subformula_count (tree_at ts a)
subformulas_counted ts a ids x s =
    let same : length (formulas ts ids) ≡ subformula_count (tree_at ts a) =
    length-same_members (formulas ts ids) (subformulas (tree_at ts a)) (formulas_distinct ts a ids x s) (subformulas-AreDistinct (tree_at ts a))
    (formulas_sound ts a ids s) (formulas_complete ts a ids s) in
    sym (length-map ids (tree_at ts)) ∙ same

-- what holds of the ids that are collected from the marks
pub collected_from : (ts : List Formula) (a : FormId) (marks : List Bool) (ids : List FormId) → IsLive ts a → AreIdsExact ts → AreOperandsBelow ts → AreMarks ts a marks →
    ids ≡ marked_from 0 marks → AreSubformulas ts a ids × (length ids ≡ subformula_count (tree_at ts a))
collected_from ts a marks ids v x o m e =
    let s : AreSubformulas ts a ids = subst (AreSubformulas ts a) (sym e) (collected ts a marks v o m) in
    (s, subformulas_counted ts a ids x s)
