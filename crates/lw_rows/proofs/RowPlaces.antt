-- Rows read from words, after a change of the words.
use Rattle.std.proofs.Common.{◌≡◌, ℕ, zero, suc, ◌+◌, ◌-◌, ◌*◌, ◌/◌, ◌%◌, ◌<◌, ◌≤◌, Bool, false, List, [], ◌∷◌, ◌++◌, map, length, get_or, set, take, drop, replicate, nat_eq, refl, sym, ap, ◌∙◌, ⊎_elim, arith, mul_comm, suc-mul, add-mul, length-set}
use Rattle.std.specs.List.{range_with_len}
use Rattle.std.proofs.lemmas.Bool.{cases_eq}
use Rattle.std.proofs.lemmas.List.{length-replicate, get_or-replicate, get_or_append_left, get_or-append_right, get_or-set_same, get_or-set_other, get_or-take, get_or-drop, length-take-le}
use Rattle.std.proofs.lemmas.List.FromFn.{fill_by_all, length-map-range_with_len, get_or-map-range_with_len, map-range_with_len_more, take-map-range_with_len}
use Rattle.std.proofs.lemmas.Nat.{mul-le, mul-add-lt, div_below, same_from_place}
use Rattle.std.proofs.lemmas.Nat.Bits.{bit_at-zero}
use Rattle.lw_rows.specs.Private.RowWords.{has_bit, row_of, rows_of}
use Rattle.lw_rows.proofs.WordBits.{Puts}

-- the list of a function's values is the list that has them
listed : {X : Type 0} (f : ℕ → X) (xs : List X) (n : ℕ) (d : X) → length xs ≡ n → ((k : ℕ) → k < n → f k ≡ get_or xs k d) → map f (range_with_len 0 n) ≡ xs
listed f xs n d long same = sym (fill_by_all f xs n d long (λ k h. sym (same k h)))

-- the lists of two functions with the same values
same_values : {X : Type 0} (f g : ℕ → X) (n : ℕ) (d : X) → ((k : ℕ) → k < n → f k ≡ g k) → map f (range_with_len 0 n) ≡ map g (range_with_len 0 n)
same_values f g n d same = listed f (map g (range_with_len 0 n)) n d (length-map-range_with_len g 0 n) (λ k h. same k h ∙ sym (get_or-map-range_with_len g 0 n k k d h (omega arith)))

-- the word of a bit lies in the row
pub word_inside : (width bit : ℕ) → bit < 64 * width → bit / 64 < width
word_inside width bit h = div_below bit 64 width (omega arith) (rw (mul_comm width 64) h)

-- a place of a row lies in the words of all rows
pub place_inside : (width count row k : ℕ) → row < count → k < width → row * width + k < count * width
place_inside width count row k r h = rw (mul_comm count width) (mul-add-lt row width k count r h)

-- the last row's words begin one row before the end
pub last_begins : (width count : ℕ) → 1 ≤ count → (count - 1) * width + width ≡ count * width
last_begins width zero h = absurd (omega arith)
last_begins width (suc n) h = let e : suc n - 1 ≡ n = omega arith in rw (e, suc-mul n width) refl

-- how many rows there are
pub length-rows_of : (width count : ℕ) (ws : List ℕ) → length (rows_of width count ws) ≡ count
length-rows_of width count ws = length-map-range_with_len (row_of width ws) 0 count

-- how many bits a row has
pub length-row_of : (width row : ℕ) (ws : List ℕ) → length (row_of width ws row) ≡ 64 * width
length-row_of width row ws = length-map-range_with_len (λ bit. has_bit (get_or ws (row * width + bit / 64) 0) (bit % 64)) 0 (64 * width)

-- the row at a place
pub row_at : (width count row : ℕ) (ws : List ℕ) (d : List Bool) → row < count → get_or (rows_of width count ws) row d ≡ row_of width ws row
row_at width count row ws d h = get_or-map-range_with_len (row_of width ws) 0 count row row d h (omega arith)

-- the bit at a place
pub bit_in_row : (width row bit : ℕ) (ws : List ℕ) → bit < 64 * width → get_or (row_of width ws row) bit false ≡ has_bit (get_or ws (row * width + bit / 64) 0) (bit % 64)
bit_in_row width row bit ws h = get_or-map-range_with_len (λ bit. has_bit (get_or ws (row * width + bit / 64) 0) (bit % 64)) 0 (64 * width) bit bit false h (omega arith)

-- rows with the same words have the same bits
row_of-same : (width r s : ℕ) (ws vs : List ℕ) → ((k : ℕ) → k < width → get_or ws (r * width + k) 0 ≡ get_or vs (s * width + k) 0) → row_of width ws r ≡ row_of width vs s
row_of-same width r s ws vs same = same_values _ _ (64 * width) false (λ bit h. ap (λ word. has_bit word (bit % 64)) (same (bit / 64) (word_inside width bit h)))

-- the same words are the same rows
pub rows_of-same : (width count : ℕ) (ws vs : List ℕ) → ((k : ℕ) → k < count * width → get_or ws k 0 ≡ get_or vs k 0) → rows_of width count ws ≡ rows_of width count vs
rows_of-same width count ws vs same = same_values (row_of width ws) (row_of width vs) count [] (λ row r. row_of-same width row row ws vs (λ k h. same (row * width + k) (place_inside width count row k r h)))

-- further words are a further row
pub rows_of-push : (width count : ℕ) (ws more : List ℕ) → length ws ≡ count * width → rows_of width (count + 1) (ws ++ more) ≡ rows_of width count ws ++ row_of width (ws ++ more) count ∷ []
rows_of-push width count ws more long =
    map-range_with_len_more (row_of width (ws ++ more)) 0 count count (omega arith)
    ∙ ap (λ rows. rows ++ row_of width (ws ++ more) count ∷ []) (rows_of-same width count (ws ++ more) ws (λ k h. get_or_append_left ws more 0 k (omega arith)))

-- words without a bit are an empty row
pub row_of-zeros : (width count : ℕ) (ws : List ℕ) → length ws ≡ count * width → row_of width (ws ++ replicate width 0) count ≡ replicate (64 * width) false
row_of-zeros width count ws long =
    listed _ (replicate (64 * width) false) (64 * width) false (length-replicate (64 * width) false) (λ bit h.
    let within : bit / 64 < width = word_inside width bit h in
    let past : count * width + bit / 64 - count * width ≡ bit / 64 = omega arith in
    let none : get_or (ws ++ replicate width 0) (count * width + bit / 64) 0 ≡ 0 = get_or-append_right ws (replicate width 0) (count * width) (count * width + bit / 64) 0 long (omega arith) ∙ ap (λ k. get_or (replicate width 0) k 0) past ∙ get_or-replicate width (bit / 64) 0 0 within in
    ap (λ word. has_bit word (bit % 64)) none ∙ ap (λ b. nat_eq b 1) (bit_at-zero (bit % 64)) ∙ sym (get_or-replicate (64 * width) bit false false h))

-- the last words again are the last row again
pub row_of-again : (width count : ℕ) (ws : List ℕ) → 1 ≤ count → length ws ≡ count * width → row_of width (ws ++ drop (length ws - width) ws) count ≡ row_of width ws (count - 1)
row_of-again width count ws some long =
    row_of-same width count (count - 1) (ws ++ drop (length ws - width) ws) ws (λ k h.
    let past : count * width + k - count * width ≡ k = omega arith in
    let begins : length ws - width + k ≡ (count - 1) * width + k = omega (arith, last_begins width count some) in
    get_or-append_right ws (drop (length ws - width) ws) (count * width) (count * width + k) 0 long (omega arith)
    ∙ ap (λ i. get_or (drop (length ws - width) ws) i 0) past ∙ get_or-drop (length ws - width) ws k 0 ∙ ap (λ i. get_or ws i 0) begins)

-- the first words are the first rows
pub rows_of-take : (width count n : ℕ) (ws : List ℕ) → n ≤ count → rows_of width n (take (n * width) ws) ≡ take n (rows_of width count ws)
rows_of-take width count n ws h =
    rows_of-same width n (take (n * width) ws) ws (λ k below. get_or-take (n * width) ws k 0 below)
    ∙ sym (take-map-range_with_len (row_of width ws) 0 count n h)

-- the words of the first rows are so many
pub length-cut : (width count n : ℕ) (ws : List ℕ) → n ≤ count → length ws ≡ count * width → length (take (n * width) ws) ≡ n * width
length-cut width count n ws h long = length-take-le (n * width) ws (omega (arith, mul-le n width count width h (omega arith)))

-- the words of the other rows are free for as many rows
pub cut_frees : (width count n spare : ℕ) → n ≤ count → n * width + (spare + (count - n)) * width ≡ count * width + spare * width
cut_frees width count n spare h =
    let whole : n * width + (count - n) * width ≡ count * width = sym (add-mul n (count - n) width) ∙ ap (λ k. k * width) (omega arith) in
    omega (arith, add-mul spare (count - n) width)

module _ (width count bit word : ℕ) (ws : List ℕ) (value : Bool) (some : 1 ≤ count) (long : length ws ≡ count * width) (inside : bit < 64 * width) (puts : Puts (get_or ws ((count - 1) * width + bit / 64) 0) word (bit % 64) value) where
  -- the word at its place is the new one
  put_here : get_or (set ws ((count - 1) * width + bit / 64) word) ((count - 1) * width + bit / 64) 0 ≡ word
  put_here = get_or-set_same ws ((count - 1) * width + bit / 64) word 0 (omega (arith, place_inside width count (count - 1) (bit / 64) (omega arith) (word_inside width bit inside)))

  -- another bit of the row is as before
  other_bit : (j : ℕ) → j < 64 * width → (j ≡ bit → ⊥) → has_bit (get_or (set ws ((count - 1) * width + bit / 64) word) ((count - 1) * width + j / 64) 0) (j % 64) ≡ has_bit (get_or ws ((count - 1) * width + j / 64) 0) (j % 64)
  other_bit j h apart =
      ⊎_elim
      (λ (same : j / 64 ≡ bit / 64). rw same (rw put_here (puts.others (j % 64) (omega arith) (λ e. apart (omega arith)))))
      (λ (differs : j / 64 ≡ bit / 64 → ⊥). ap (λ w. has_bit w (j % 64)) (get_or-set_other ws ((count - 1) * width + bit / 64) ((count - 1) * width + j / 64) word 0 (λ e. differs (omega arith))))
      (cases_eq (j / 64) (bit / 64))

  -- the last row has the bit's new value and all its other bits
  last_put : row_of width (set ws ((count - 1) * width + bit / 64) word) (count - 1) ≡ set (row_of width ws (count - 1)) bit value
  last_put =
      listed _ (set (row_of width ws (count - 1)) bit value) (64 * width) false (length-set (row_of width ws (count - 1)) bit value ∙ length-row_of width (count - 1) ws) (λ j h.
      ⊎_elim
      (λ (same : j ≡ bit). rw same (ap (λ w. has_bit w (bit % 64)) put_here ∙ puts.here ∙ sym (get_or-set_same (row_of width ws (count - 1)) bit value false (rw (length-row_of width (count - 1) ws) inside))))
      (λ (apart : j ≡ bit → ⊥). other_bit j h apart ∙ sym (get_or-set_other (row_of width ws (count - 1)) bit j value false apart ∙ bit_in_row width (count - 1) j ws h))
      (cases_eq j bit))

  -- the rows below are as before
  row_kept : (row : ℕ) → (row ≡ count - 1 → ⊥) → row_of width (set ws ((count - 1) * width + bit / 64) word) row ≡ row_of width ws row
  row_kept row apart = row_of-same width row row (set ws ((count - 1) * width + bit / 64) word) ws (λ k h. get_or-set_other ws ((count - 1) * width + bit / 64) (row * width + k) word 0 (λ e. apart (same_from_place row k (count - 1) (bit / 64) width h (word_inside width bit inside) e).0))

  -- the new word is that bit of the last row with its new value
  pub rows_of-put : rows_of width count (set ws ((count - 1) * width + bit / 64) word) ≡ set (rows_of width count ws) (count - 1) (set (row_of width ws (count - 1)) bit value)
  rows_of-put =
      listed _ (set (rows_of width count ws) (count - 1) (set (row_of width ws (count - 1)) bit value)) count [] (length-set (rows_of width count ws) (count - 1) (set (row_of width ws (count - 1)) bit value) ∙ length-rows_of width count ws) (λ row h.
      ⊎_elim
      (λ (same : row ≡ count - 1). rw same (last_put ∙ sym (get_or-set_same (rows_of width count ws) (count - 1) (set (row_of width ws (count - 1)) bit value) [] (rw (length-rows_of width count ws) (omega arith)))))
      (λ (apart : row ≡ count - 1 → ⊥). row_kept row apart ∙ sym (get_or-set_other (rows_of width count ws) (count - 1) row (set (row_of width ws (count - 1)) bit value) [] apart ∙ row_at width count row ws [] h))
      (cases_eq row (count - 1)))
