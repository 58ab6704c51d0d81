-- Rows of bits as sets.
use Rattle.std.proofs.Common.{◌≡◌, ℕ, ◌+◌, ◌-◌, ◌*◌, ◌<◌, ◌≤◌, Bool, false, List, [], ◌∷◌, ◌++◌, length, get_or, take, map, refl, sym, ap, ◌∙◌, ⊎_elim, arith, drop}
use Rattle.std.proofs.lemmas.Bool.{cases_lt}
use Rattle.std.proofs.lemmas.List.{length-map, length_push, get_or_push, get_or_past, get_or-replicate, length-replicate, take_more, take_all, take-append-le, map-append}
use Rattle.lw_proof.specs.System.{Set}
use Rattle.lw_rows.specs.RowStack.{Region, IsRegion, empty_row}
use Rattle.lw_sat.specs.Sets.{has, nothing, top, sets, lower}
use Rattle.lw_sat.specs.Private.LastRow.{HasTop}

-- the bits of an empty row
pub has-empty : (width : ℕ) → has (empty_row width) ≡ nothing
has-empty width = λ i k. empty k i where
  empty : (k : ℕ) → get_or (empty_row width) k false ≡ false
  empty k =
      ⊎_elim
      (λ (inside : k < 64 * width). get_or-replicate (64 * width) k false false inside)
      (λ (past : 64 * width ≤ k). get_or_past (empty_row width) k false (let long = length-replicate (64 * width) false in omega (arith, long)))
      (cases_lt k (64 * width))

module _ (r : Region) where
  -- all rows are those below the last, and the last
  rows_split : 1 ≤ length r.rows → r.rows ≡ take (length r.rows - 1) r.rows ++ get_or r.rows (length r.rows - 1) [] ∷ []
  rows_split some =
      sym (take_all (length r.rows - 1 + 1) r.rows (omega arith)) ∙ take_more r.rows (length r.rows - 1) [] (omega arith)

  pub sets_split : HasTop r → sets r ≡ lower r ++ top r ∷ []
  sets_split h = ap (map has) (rows_split h.some) ∙ map-append has (take (length r.rows - 1) r.rows) (get_or r.rows (length r.rows - 1) [] ∷ [])

  -- after a push
  pub top-push : (row : List Bool) (spare : ℕ) → top (record r { rows = r.rows ++ row ∷ []; spare = spare }) ≡ has row
  top-push row spare = ap has (get_or_push r.rows row [] (length (r.rows ++ row ∷ []) - 1) (omega (arith, length_push r.rows row)))

  pub lower-push : (row : List Bool) (spare : ℕ) → lower (record r { rows = r.rows ++ row ∷ []; spare = spare }) ≡ sets r
  lower-push row spare =
      let n : length (r.rows ++ row ∷ []) - 1 ≡ length r.rows = omega (arith, length_push r.rows row) in
      ap (λ k. map has (take k (r.rows ++ row ∷ []))) n ∙ ap (map has) (take-append-le (length r.rows) r.rows (row ∷ []) (omega arith) ∙ take_all (length r.rows) r.rows (omega arith))

-- lists that end with one element each are the same only with the same fronts and the same ends
pub same_ends : {A : Type 0} (xs ys : List A) (x y : A) → xs ++ x ∷ [] ≡ ys ++ y ∷ [] → (xs ≡ ys) × (x ≡ y)
same_ends [] [] x y e = (refl, ap (λ l. get_or l 0 x) e)
same_ends [] (b ∷ ys) x y e = absurd (let n = ap length e in omega (arith, length_push ys y))
same_ends (a ∷ xs) [] x y e = absurd (let n = ap length e in omega (arith, length_push xs x))
same_ends (a ∷ xs) (b ∷ ys) x y e =
    let r = same_ends xs ys x y (ap (drop 1) e) in
    let head : a ≡ b = ap (λ l. get_or l 0 a) e in
    (λ i. head i ∷ r.0 i, r.1)

-- what is left when the last row is taken off
pub after_pop : (r s : Region) (Xs : List (Set ℕ)) (X : Set ℕ) → lower r ≡ Xs ++ X ∷ [] → s.rows ≡ take (length r.rows - 1) r.rows → IsRegion s → HasTop s × (lower s ≡ Xs) × (top s ≡ X)
after_pop r s Xs X e cut region =
    let all : sets s ≡ Xs ++ X ∷ [] = ap (map has) cut ∙ e in
    let n : length s.rows ≡ length Xs + 1 = sym (length-map s.rows has) ∙ ap length all ∙ length_push Xs X in
    let h : HasTop s = record { some = omega arith; region = region } in
    let ends = same_ends (lower s) Xs (top s) X (sym (sets_split s h) ∙ all) in
    (h, ends.0, ends.1)
