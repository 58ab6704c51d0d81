-- A certificate has one sheet in which its model's rows are in order, and so one text.
use Rattle.std.proofs.Common.{◌≡◌, ℕ, suc, ◌+◌, ◌<◌, ◌≤◌, List, [], ◌∷◌, length, Contains, ◌↔◌, ◌⊎◌, inl, inr, ⊎_elim, refl, sym, ◌∙◌, ap, subst, arith}
use Rattle.std.proofs.lemmas.List.Elements.{All-head, All-tail}
use Rattle.std.proofs.lemmas.Cmp.{nat_list_cmp_total}
use Rattle.std.specs.List.{All}
use Rattle.std.specs.Ordering.{nat_cmp}
use Rattle.std.specs.Cmp.Lexicographic.{slice_cmp}
use Rattle.std.specs.declared.cmp.Ordering.TheVariants.{Less}
use Rattle.lw_formula.specs.Formula.{Formula}
use Rattle.lw_formula.proofs.ByteOrder.{slice_cmp-Greater}
use Rattle.lw_formula.proofs.ListMembers.{Contains-nil, Contains-head, Contains-tail, Contains-cons_cases}
use Rattle.lw_cert.specs.declared.certificate.Body.{Body}
use Rattle.lw_cert.specs.declared.certificate.Body.TheVariants.{Proved, Refuted}
use Rattle.lw_cert.specs.declared.certificate.Certificate.{Certificate}
use Rattle.lw_cert.specs.Lines.{Row, Climb, Rise, IsRow}
use Rattle.lw_cert.specs.Sheet.{Sheet, Content, Steps, Table, lines}
use Rattle.lw_cert.specs.Certificates.{row_at, IsContentOf, IsSheetOf}
use Rattle.lw_cert.specs.Written.{text_of_lines, IsOrdered}
use Rattle.lw_cert.specs.Laws.{HasOneText}

-- lists in which each element is before those behind it are told by their members
module _ {X : Type 0} (Before : X → X → Type 0) (apart : (x y : X) → Before x y → Before y x → ⊥) where
  abbrev Ascends : List X → Type 0
  Ascends [] = Unit {0}
  Ascends (x ∷ xs) = ((y : X) → Contains xs y → Before x y) × Ascends xs

  rest-has : (x y : X) (xs ys : List X) → x ≡ y → ((z : X) → Contains xs z → Before x z) → ((z : X) → Contains (x ∷ xs) z → Contains (y ∷ ys) z) → (z : X) → Contains xs z → Contains ys z
  rest-has x y xs ys same before all z h =
      ⊎_elim (λ e. let here : Before z z = subst (λ v. Before v z) (same ∙ e) (before z h) in absurd (apart z z here here)) (λ k. k) (Contains-cons_cases y ys z (all z (Contains-tail x xs z h)))

  same-members : (xs ys : List X) → Ascends xs → Ascends ys → ((z : X) → Contains xs z ↔ Contains ys z) → xs ≡ ys
  same-members [] [] a b same = refl
  same-members [] (y ∷ ys) a b same = absurd (Contains-nil y ((same y).1 (Contains-head y ys)))
  same-members (x ∷ xs) [] a b same = absurd (Contains-nil x ((same x).0 (Contains-head x xs)))
  same-members (x ∷ xs) (y ∷ ys) a b same =
      let first : x ≡ y = head (Contains-cons_cases y ys x ((same x).0 (Contains-head x xs))) (Contains-cons_cases x xs y ((same y).1 (Contains-head y ys))) in
      let others = same-members xs ys a.1 b.1 (λ z. (rest-has x y xs ys first a.0 (λ v. (same v).0) z, rest-has y x ys xs (sym first) b.0 (λ v. (same v).1) z)) in
      λ i. first i ∷ others i
    where
      head : (y ≡ x) ⊎ Contains ys x → (x ≡ y) ⊎ Contains xs y → x ≡ y
      head (inl e) k = sym e
      head (inr h) (inl e) = e
      head (inr h) (inr k) = absurd (apart x y (a.0 y k) (b.0 x h))

climb-low : (n least : ℕ) (vs : List ℕ) → Climb n least vs → (v : ℕ) → Contains vs v → least ≤ v
climb-low n least [] climb v h = absurd (Contains-nil v h)
climb-low n least (u ∷ us) climb v h =
    ⊎_elim (λ e. subst (λ k. least ≤ k) e climb.0) (λ k. let low = climb-low n (u + 1) us climb.2 v k in let high = climb.0 in omega arith) (Contains-cons_cases u us v h)

climb-ascends : (n least : ℕ) (vs : List ℕ) → Climb n least vs → Ascends (λ a b. a < b) (λ a b h k. omega arith) vs
climb-ascends n least [] climb = tt
climb-ascends n least (v ∷ vs) climb = ((λ u h. let low = climb-low n (v + 1) vs climb.2 u h in omega arith), climb-ascends n (v + 1) vs climb.2)

rise-before : (last : List ℕ) (ps : List (List ℕ)) → Rise last ps → (p : List ℕ) → Contains ps p → slice_cmp nat_cmp last p ≡ Less
rise-before last [] rise p h = absurd (Contains-nil p h)
rise-before last (q ∷ qs) rise p h =
    ⊎_elim (λ e. subst (λ r. slice_cmp nat_cmp last r ≡ Less) e rise.1) (λ k. nat_list_cmp_total.trans last q p rise.1 (rise-before q qs rise.2 p k)) (Contains-cons_cases q qs p h)

less-apart : (p q : List ℕ) → slice_cmp nat_cmp p q ≡ Less → slice_cmp nat_cmp q p ≡ Less → ⊥
less-apart p q e f = let g = slice_cmp-Greater p q e in cc

rise-ascends : (last : List ℕ) (ps : List (List ℕ)) → Rise last ps → Ascends (λ p q. slice_cmp nat_cmp p q ≡ Less) less-apart ps
rise-ascends last [] rise = tt
rise-ascends last (p ∷ ps) rise = (rise-before p ps rise.2, rise-ascends p ps rise.2)

row-same : (n : ℕ) (r q : Row) → IsRow n r → IsRow n q → ((v : ℕ) → Contains r.sees v ↔ Contains q.sees v) → ((p : List ℕ) → Contains r.names p ↔ Contains q.names p) → r ≡ q
row-same n r q is is' sees names = λ i. record {
  sees = same-members (λ a b. a < b) (λ a b h k. omega arith) r.sees q.sees (climb-ascends n 0 r.sees is.sees) (climb-ascends n 0 q.sees is'.sees) sees i;
  names = same-members (λ p q. slice_cmp nat_cmp p q ≡ Less) less-apart r.names q.names (rise-ascends [] r.names is.names) (rise-ascends [] q.names is'.names) names i;
}

-- rows that tell the same are the same
rows-same : (n : ℕ) (rows others : List Row) → length rows ≡ length others → All (IsRow n) rows → All (IsRow n) others
    → ((w v : ℕ) → Contains (row_at rows w).sees v ↔ Contains (row_at others w).sees v) → ((w : ℕ) (p : List ℕ) → Contains (row_at rows w).names p ↔ Contains (row_at others w).names p) → rows ≡ others
rows-same n [] [] count are are' sees names = refl
rows-same n [] (q ∷ others) count are are' sees names = absurd (omega arith)
rows-same n (r ∷ rows) [] count are are' sees names = absurd (omega arith)
rows-same n (r ∷ rows) (q ∷ others) count are are' sees names =
    let one = row-same n r q (All-head (IsRow n) r rows are) (All-head (IsRow n) q others are') (sees 0) (names 0) in
    let more = rows-same n rows others (omega arith) (All-tail (IsRow n) r rows are) (All-tail (IsRow n) q others are') (λ w. sees (suc w)) (λ w. names (suc w)) in
    λ i. one i ∷ more i

through : {A B C : Type 0} → A ↔ B → A ↔ C → B ↔ C
through f g = (λ b. g.0 (f.1 b), λ c. f.0 (g.1 c))

content-same : (ts : List Formula) (body : Body) (b c : Content) → IsContentOf ts body b → IsContentOf ts body c → IsOrdered b → IsOrdered c → b ≡ c
content-same ts (Proved P) (Steps t) (Steps u) is is' o o' = ap Steps (is.1 ∙ sym is'.1)
content-same ts (Proved P) (Steps t) (Table v rows) is is' o o' = absurd is'
content-same ts (Proved P) (Table v rows) c is is' o o' = absurd is
content-same ts (Refuted m w) (Steps t) c is is' o o' = absurd is
content-same ts (Refuted m w) (Table v rows) (Steps t) is is' o o' = absurd is'
content-same ts (Refuted m w) (Table v rows) (Table u others) is is' o o' =
    let count : length rows ≡ length others = sym is.2 ∙ is'.2 in
    let same = rows-same (length rows) rows others count o (subst (λ n. All (IsRow n) others) (sym count) o')
    (λ x y. through ((is.3 x).relation y) ((is'.3 x).relation y)) (λ x p. through ((is.3 x).facts p) ((is'.3 x).facts p)) in
    λ i. Table ((sym is.0 ∙ is'.0) i) (same i)

sheet-same : (ts : List Formula) (c : Certificate) (s t : Sheet) → IsSheetOf ts c s → IsSheetOf ts c t → IsOrdered s.content → IsOrdered t.content → s ≡ t
sheet-same ts c s t is is' o o' = λ i. record {
  logic = (sym is.logic ∙ is'.logic) i;
  formula = (sym is.formula.1 ∙ is'.formula.1) i;
  content = content-same ts c.body s.content t.content is.content is'.content o o' i;
}

pub one-text : (ts : List Formula) (c : Certificate) → HasOneText ts c
one-text ts c text other is is' = is.said ∙ ap (λ s. text_of_lines (lines s)) (sheet-same ts c is.sheet is'.sheet is.says is'.says is.ordered is'.ordered) ∙ sym is'.said
