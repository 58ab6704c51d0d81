-- Rows laid end to end: what they contain, and what becomes of them when an item is put into a row, or a row behind them.
use Rattle.std.proofs.Common.{◌≡◌, ◌≢◌, ℕ, ◌+◌, ◌-◌, ◌<◌, ◌≤◌, zero, suc, List, [], ◌∷◌, ◌++◌, length, get_or, map, drop, set, ◌⊎◌, ◌↔◌, inl, inr, ⊎_elim, refl, ap, subst, sym, ◌∙◌, arith, length-append}
use Rattle.std.specs.declared.cmp.Ordering.{Ordering}
use Rattle.std.specs.Cmp.{IsTotalOrder}
use Rattle.std.specs.List.{Contains, insert}
use Rattle.std.proofs.lemmas.List.{get_or_append_left, get_or-append_right, get_or-map, length-map, get_or_default}
use Rattle.std.proofs.Math.Seq.{drop-cons}
use Rattle.std.proofs.lemmas.List.Edits.{length-insert, insert-append_left, insert-append_right}
use Rattle.std.proofs.lemmas.List.Elements.{Contains-append_cases, Contains-append_left, Contains-append_right}
use Rattle.lw_formula.specs.FiniteModel.{AreDistinct}
use Rattle.lw_formula.proofs.ByteOrder.{AllPairs-insert, insert-Contains}
use Rattle.lw_formula.proofs.ListMembers.{Contains-nil, Contains-head, Contains-tail, Contains-cons_cases}
use Rattle.lw_model.proofs.ListGaps.{gap-absent}
use Rattle.lw_model.specs.Private.OrderedRows.{marked, numbered, IsGapIn, IsGrown, IsPlace}

-- a row with its number has its items with that number, and no others
pair-Contains : {T : Type 0} (k : ℕ) (xs : List T) (a : ℕ) (x : T) → Contains (marked k xs) (a, x) ↔ ((k ≡ a) × Contains xs x)
pair-Contains k [] a x = (λ h. absurd (Contains-nil (a, x) h), λ h. absurd (Contains-nil x h.1))
pair-Contains k (y ∷ ys) a x = (
  λ h. ⊎_elim
      (λ e. (ap (λ p. p.0) e, subst (Contains (y ∷ ys)) (ap (λ p. p.1) e) (Contains-head y ys)))
      (λ rest. let old = (pair-Contains k ys a x).0 rest in (old.0, Contains-tail y ys x old.1))
      (Contains-cons_cases (k, y) (marked k ys) (a, x) h),
  λ h. ⊎_elim
      (λ e. subst (Contains ((k, y) ∷ marked k ys)) (λ i. (h.0 i, e i)) (Contains-head (k, y) (marked k ys)))
      (λ rest. Contains-tail (k, y) (marked k ys) (a, x) ((pair-Contains k ys a x).1 (h.0, rest)))
      (Contains-cons_cases y ys x h.1),
)

-- no number is below that of the first row
numbers-from : {T : Type 0} (k : ℕ) (rows : List (List T)) (a : ℕ) (x : T) → Contains (numbered k rows) (a, x) → k ≤ a
numbers-from k [] a x h = absurd (Contains-nil (a, x) h)
numbers-from k (xs ∷ rows) a x h =
    ⊎_elim
    (λ here. let e : k ≡ a = ((pair-Contains k xs a x).0 here).0 in omega arith)
    (λ later. let l : suc k ≤ a = numbers-from (suc k) rows a x later in omega arith)
    (Contains-append_cases (marked k xs) (numbered (suc k) rows) (a, x) h)

rows-Contain : {T : Type 0} (k : ℕ) (rows : List (List T)) (j a : ℕ) (x : T) → k + j ≡ a → Contains (numbered k rows) (a, x) ↔ Contains (get_or rows j []) x
rows-Contain k [] j a x e = (λ h. absurd (Contains-nil (a, x) h), λ h. absurd (Contains-nil x h))
rows-Contain k (xs ∷ rows) zero a x e =
    let here : k ≡ a = omega arith in (
      λ h. ⊎_elim
          (λ front. ((pair-Contains k xs a x).0 front).1)
          (λ later. let l : suc k ≤ a = numbers-from (suc k) rows a x later in absurd (omega arith))
          (Contains-append_cases (marked k xs) (numbered (suc k) rows) (a, x) h),
      λ h. Contains-append_left (marked k xs) (numbered (suc k) rows) (a, x) ((pair-Contains k xs a x).1 (here, h)),
    )
rows-Contain k (xs ∷ rows) (suc j) a x e =
    let rest = rows-Contain (suc k) rows j a x (omega arith) in (
      λ h. ⊎_elim
          (λ front. let here : k ≡ a = ((pair-Contains k xs a x).0 front).0 in absurd (omega arith))
          (λ later. rest.0 later)
          (Contains-append_cases (marked k xs) (numbered (suc k) rows) (a, x) h),
      λ h. Contains-append_right (marked k xs) (numbered (suc k) rows) (a, x) (rest.1 h),
    )

-- an item has a number just where that row has it
pub numbered-Contains : {T : Type 0} (rows : List (List T)) (a : ℕ) (x : T) → Contains (numbered 0 rows) (a, x) ↔ Contains (get_or rows a []) x
numbered-Contains rows a x = rows-Contain 0 rows a a x (omega arith)

-- the same, by what is laid end to end
pub row-Contains : {T : Type 0} (rows : List (List T)) (all : List (ℕ × T)) → numbered 0 rows ≡ all → (a : ℕ) (x : T) → Contains all (a, x) ↔ Contains (get_or rows a []) x
row-Contains rows all e a x = subst (λ (zs : List (ℕ × _)). Contains zs (a, x) ↔ Contains (get_or rows a []) x) e (numbered-Contains rows a x)

-- a row that has an item is one of the rows
row-within : {T : Type 0} (rows : List (List T)) (a : ℕ) (x : T) → Contains (get_or rows a []) x → a < length rows
row-within [] a x h = absurd (Contains-nil x h)
row-within (xs ∷ rows) zero x h = omega arith
row-within (xs ∷ rows) (suc a) x h = omega (arith, row-within rows a x h)

pub numbers-below : {T : Type 0} (rows : List (List T)) (all : List (ℕ × T)) → numbered 0 rows ≡ all → (a : ℕ) (x : T) → Contains all (a, x) → a < length rows
numbers-below rows all e a x h = row-within rows a x ((row-Contains rows all e a x).0 h)

-- the second list is the first with the element put in somewhere
abbrev pub IsInserted : {X : Type 0} → List X → X → List X → Type 0
IsInserted old x new = (q : ℕ) × (q ≤ length old) × (new ≡ insert old q x)

map-insert : {X Y : Type 0} (f : X → Y) (xs : List X) (i : ℕ) (x : X) → map f (insert xs i x) ≡ insert (map f xs) i (f x)
map-insert f [] zero x = refl
map-insert f [] (suc i) x = refl
map-insert f (y ∷ ys) zero x = refl
map-insert f (y ∷ ys) (suc i) x = ap (λ zs. f y ∷ zs) (map-insert f ys i x)

-- an item put into a row is put in among all items
rows-put : {T : Type 0} (k : ℕ) (rows : List (List T)) (j a place : ℕ) (x : T) → j < length rows → k + j ≡ a → place ≤ length (get_or rows j []) →
    IsInserted (numbered k rows) (a, x) (numbered k (set rows j (insert (get_or rows j []) place x)))
rows-put k [] j a place x l e p = absurd (omega arith)
rows-put k (xs ∷ rows) zero a place x l e p =
    let here : k ≡ a = omega arith in
    let long : length (marked k xs) ≡ length xs = length-map xs (λ y. (k, y)) in (
      place,
      omega (arith, length-append (marked k xs) (numbered (suc k) rows)),
      ap (λ zs. zs ++ numbered (suc k) rows) (map-insert (λ y. (k, y)) xs place x)
          ∙ sym (insert-append_left (marked k xs) (numbered (suc k) rows) place (k, x) (omega arith))
          ∙ ap (λ n. insert (marked k xs ++ numbered (suc k) rows) place (n, x)) here,
    )
rows-put k (xs ∷ rows) (suc j) a place x l e p =
    let rest = rows-put (suc k) rows j a place x (omega arith) (omega arith) p in
    let front = marked k xs in
    let at : (length front + rest.0) - length front ≡ rest.0 = omega arith in (
      length front + rest.0,
      omega (arith, rest.1, length-append front (numbered (suc k) rows)),
      ap (λ zs. front ++ zs) rest.2
          ∙ ap (λ n. front ++ insert (numbered (suc k) rows) n (a, x)) (sym at)
          ∙ sym (insert-append_right front (numbered (suc k) rows) (length front) (length front + rest.0) (a, x) refl (omega arith)),
    )

pub numbered-put : {T : Type 0} (rows : List (List T)) (a place : ℕ) (x : T) → a < length rows → place ≤ length (get_or rows a []) → IsInserted (numbered 0 rows) (a, x) (numbered 0 (set rows a (insert (get_or rows a []) place x)))
numbered-put rows a place x l p = rows-put 0 rows a a place x l (omega arith) p

pub length-inserted : {X : Type 0} (old : List X) (x : X) (new : List X) → IsInserted old x new → length new ≡ length old + 1
length-inserted old x new h = ap length h.2 ∙ length-insert old h.0 x h.1

pub AreDistinct-inserted : {X : Type 0} (old : List X) (x : X) (new : List X) → IsInserted old x new → AreDistinct old → ¬ Contains old x → AreDistinct new
AreDistinct-inserted old x new h distinct lacks =
    subst AreDistinct (sym h.2)
    (AllPairs-insert (λ y z. y ≢ z) old h.0 x h.1 distinct
    (λ k d a b e. lacks (k, omega arith, get_or_default old k x d (omega arith) ∙ e))
    (λ k d a b e. lacks (k, b, get_or_default old k x d b ∙ sym e)))

pub inserted-Contains : {T : Type 0} (old : List (ℕ × T)) (at : ℕ) (item : T) (new : List (ℕ × T)) → IsInserted old (at, item) new →
    (a : ℕ) (x : T) → Contains new (a, x) ↔ (Contains old (a, x) ⊎ ((at ≡ a) × (item ≡ x)))
inserted-Contains old at item new h a x =
    let both = insert-Contains old h.0 (at, item) (a, x) in (
      λ k. ⊎_elim (λ o. inl o) (λ e. inr (ap (λ p. p.0) (sym e), ap (λ p. p.1) (sym e))) (both.0 (subst (λ zs. Contains zs (a, x)) h.2 k)),
      λ k. subst (λ zs. Contains zs (a, x)) (sym h.2) (both.1 (⊎_elim (λ o. inl o) (λ e. inr (λ i. (sym e.0 i, sym e.1 i))) k)),
    )

-- a row of no items behind the others changes nothing
numbered-push : {T : Type 0} (k : ℕ) (rows : List (List T)) → numbered k (rows ++ [] ∷ []) ≡ numbered k rows
numbered-push k [] = refl
numbered-push k (xs ∷ rows) = ap (λ zs. marked k xs ++ zs) (numbered-push (suc k) rows)

row-push : {T : Type 0} (rows : List (List T)) (a : ℕ) → get_or (rows ++ [] ∷ []) a [] ≡ get_or rows a []
row-push [] zero = refl
row-push [] (suc a) = refl
row-push (xs ∷ rows) zero = refl
row-push (xs ∷ rows) (suc a) = row-push rows a

pub IsGrown-refl : {T : Type 0} (rows : List (List T)) → IsGrown rows rows
IsGrown-refl rows = record { same = λ a. refl; items = refl }

pub IsGrown-push : {T : Type 0} (old now : List (List T)) → IsGrown old now → IsGrown old (now ++ [] ∷ [])
IsGrown-push old now h = record { same = λ a. row-push now a ∙ h.same a; items = numbered-push 0 now ∙ h.items }

-- an item put into its gap, where rows of no items were maybe added before
pub put-grown : {T : Type 0} {cmp : T → T → Ordering} (old rows : List (List T)) (all : List (ℕ × T)) (at place : ℕ) (x : T) (row : List T) → numbered 0 old ≡ all → IsGrown old rows → at < length rows →
    IsGapIn cmp (get_or old at []) x place → row ≡ insert (get_or rows at []) place x → IsInserted all (at, x) (numbered 0 (set rows at row))
put-grown old rows all at place x row e grown l gap put =
    let within : place ≤ length (get_or rows at []) = rw (grown.same at) gap.within in
    let inserted = numbered-put rows at place x l within in
    subst (λ zs. IsInserted zs (at, x) (numbered 0 (set rows at row))) (grown.items ∙ e) (subst (λ ys. IsInserted (numbered 0 rows) (at, x) (numbered 0 (set rows at ys))) (sym put) inserted)

-- an item that has a gap in its number's row isn't there
pub lacks-item : {T : Type 0} {cmp : T → T → Ordering} → IsTotalOrder cmp → (rows : List (List T)) (all : List (ℕ × T)) (at place : ℕ) (x : T) → numbered 0 rows ≡ all → IsGapIn cmp (get_or rows at []) x place → Contains all (at, x) → ⊥
lacks-item total rows all at place x e gap h = gap-absent total (get_or rows at []) x place gap ((row-Contains rows all e at x).0 h)

-- an item that is there adds nothing
pub there-Contains : {T : Type 0} (all : List (ℕ × T)) (at : ℕ) (item : T) → Contains all (at, item) → (a : ℕ) (x : T) → Contains all (a, x) ↔ (Contains all (a, x) ⊎ ((at ≡ a) × (item ≡ x)))
there-Contains all at item h a x = (λ k. inl k, λ k. ⊎_elim (λ o. o) (λ e. subst (Contains all) (λ i. (e.0 i, e.1 i)) h) k)

-- the i-th of all items is the one at this place of the rows from `at` on
pub record IsLeft {T : Type 0} (rows : List (List T)) (i at place : ℕ) : Type 0 where
  pub within : place < length (numbered at (drop at rows))
  pub item : (e : ℕ × T) → get_or (numbered 0 rows) i e ≡ get_or (numbered at (drop at rows)) place e

-- the rows from `at` on are that one and the later ones
rows-from : {T : Type 0} (rows : List (List T)) (at : ℕ) → at < length rows → numbered at (drop at rows) ≡ marked at (get_or rows at []) ++ numbered (suc at) (drop (suc at) rows)
rows-from rows at l = ap (numbered at) (drop-cons rows at [] l)

pub place-here : {T : Type 0} (rows : List (List T)) (i at place : ℕ) → IsLeft rows i at place → at < length rows → place < length (get_or rows at []) → IsPlace rows i at place
place-here rows i at place h l p =
    let row = get_or rows at [] in
    let long : length (marked at row) ≡ length row = length-map row (λ x. (at, x)) in
    record {
      row = l;
      within = p;
      item = λ k d. h.item (k, d) ∙ ap (λ zs. get_or zs place (k, d)) (rows-from rows at l)
          ∙ get_or_append_left (marked at row) (numbered (suc at) (drop (suc at) rows)) (k, d) place (omega arith)
          ∙ get_or-map (λ x. (at, x)) row place d (k, d) p;
    }

pub left-later : {T : Type 0} (rows : List (List T)) (i at place : ℕ) → IsLeft rows i at place → at < length rows → length (get_or rows at []) ≤ place → IsLeft rows i (suc at) (place - length (get_or rows at []))
left-later rows i at place h l p =
    let row = get_or rows at [] in
    let front = marked at row in
    let rest = numbered (suc at) (drop (suc at) rows) in
    let long : length front ≡ length row = length-map row (λ x. (at, x)) in
    let all : length (numbered at (drop at rows)) ≡ length front + length rest = ap length (rows-from rows at l) ∙ length-append front rest in
    let within : place - length row < length rest = omega (arith, h.within) in
    let item : (e : ℕ × _) → get_or (numbered 0 rows) i e ≡ get_or rest (place - length row) e = λ e. h.item e ∙ ap (λ zs. get_or zs place e) (rows-from rows at l) ∙ get_or-append_right front rest (length row) place e long p in
    record { within = within; item = item }

pub left-all : {T : Type 0} (rows : List (List T)) (i : ℕ) → i < length (numbered 0 rows) → IsLeft rows i 0 i
left-all rows i l = record { within = l; item = λ e. refl }

-- behind the last row nothing is left
pub left-none : {T : Type 0} (rows : List (List T)) (i at place : ℕ) → IsLeft rows i at place → length rows ≤ at → ⊥
left-none rows i at place h l = none (drop at rows) at place h.within (length-dropped rows at l)
  where
    none : {T : Type 0} (rows : List (List T)) (at place : ℕ) → place < length (numbered at rows) → rows ≡ [] → ⊥
    none rows at place h e = let bad : place < 0 = subst (λ zs. place < length (numbered at zs)) e h in omega arith

    length-dropped : {T : Type 0} (rows : List (List T)) (at : ℕ) → length rows ≤ at → drop at rows ≡ []
    length-dropped [] zero l = refl
    length-dropped [] (suc at) l = refl
    length-dropped (xs ∷ rows) zero l = absurd (omega arith)
    length-dropped (xs ∷ rows) (suc at) l = length-dropped rows at (omega arith)
