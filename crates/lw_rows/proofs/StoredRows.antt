-- What contracts see of rows in words, before and after a change of the words.
use Rattle.std.proofs.Common.{◌≡◌, ℕ, ◌+◌, ◌-◌, ◌*◌, ◌/◌, ◌%◌, ◌<◌, ◌≤◌, Bool, false, List, [], ◌∷◌, ◌++◌, length, get_or, set, take, sym, ap, ap₂, ◌∙◌, subst, arith}
use Rattle.std.proofs.lemmas.List.{get_or_read}
use Rattle.std.proofs.lemmas.List.Elements.{All-from_get_or}
use Rattle.lw_rows.specs.RowStack.{Region, IsRegion, empty_row, last_row, bit_in, with_bit}
use Rattle.lw_rows.specs.Private.RowWords.{has_bit, row_of, rows_of}
use Rattle.lw_rows.proofs.WordBits.{Puts}
use Rattle.lw_rows.proofs.RowPlaces.{last_begins, word_inside, place_inside, length-rows_of, length-row_of, row_at, bit_in_row, rows_of-push, rows_of-take, rows_of-put}

-- what contracts see of so many rows in these words
abbrev pub seen : ℕ → ℕ → ℕ → List ℕ → Region
seen width count spare ws = record { width = width; rows = rows_of width count ws; spare = spare }

-- each row has as many bits as its words
pub seen_is_region : (width count spare : ℕ) (ws : List ℕ) → 1 ≤ width → width ≤ 64 → IsRegion (seen width count spare ws)
seen_is_region width count spare ws some bounded = record {
  at_least_one = some;
  at_most_64 = bounded;
  equal = All-from_get_or (λ row. length row ≡ 64 * width) (rows_of width count ws) [] (λ i h. ap length (row_at width count i ws [] (rw (length-rows_of width count ws) at h)) ∙ length-row_of width i ws);
}

module _ (r : Region) (width count spare : ℕ) (ws : List ℕ) (view_is : seen width count spare ws ≡ r) where
  pub seen_region : 1 ≤ width → width ≤ 64 → IsRegion r
  seen_region some bounded = subst IsRegion view_is (seen_is_region width count spare ws some bounded)

  -- how many rows contracts see
  pub seen_count : count ≡ length r.rows
  seen_count = subst (λ r. count ≡ length r.rows) view_is (sym (length-rows_of width count ws))

  -- a row is seen exactly below the count
  pub seen_some : 1 ≤ length r.rows → 1 ≤ count
  seen_some some = omega (arith, seen_count)

  -- the last row that contracts see
  pub seen_last : 1 ≤ count → last_row r ≡ row_of width ws (count - 1)
  seen_last some =
      subst (λ r. last_row r ≡ row_of width ws (count - 1)) view_is
      (ap (λ n. get_or (rows_of width count ws) (n - 1) (empty_row width)) (length-rows_of width count ws) ∙ row_at width count (count - 1) ws (empty_row width) (omega arith))

  -- words after the others are a row after the others
  pub seen_push : (vs more : List ℕ) (row : List Bool) → length ws ≡ count * width → vs ≡ ws ++ more → row_of width (ws ++ more) count ≡ row → seen width (count + 1) (spare - 1) vs ≡ record r { rows = r.rows ++ row ∷ []; spare = r.spare - 1 }
  seen_push vs more row long added is =
      subst (λ r. seen width (count + 1) (spare - 1) vs ≡ record r { rows = r.rows ++ row ∷ []; spare = r.spare - 1 }) view_is
      (ap (λ rows. record { width = width; rows = rows; spare = spare - 1 }) (ap (rows_of width (count + 1)) added ∙ rows_of-push width count ws more long ∙ ap (λ row. rows_of width count ws ++ row ∷ []) is))

  -- the first words are the first rows, and all others are spare
  pub seen_take : (n : ℕ) (vs : List ℕ) → n ≤ count → vs ≡ take (n * width) ws → seen width n (spare + (count - n)) vs ≡ record r { rows = take n r.rows; spare = r.spare + (length r.rows - n) }
  seen_take n vs within cut =
      subst (λ r. seen width n (spare + (count - n)) vs ≡ record r { rows = take n r.rows; spare = r.spare + (length r.rows - n) }) view_is
      (ap₂ (λ rows k. record { width = width; rows = rows; spare = spare + (k - n) }) (ap (rows_of width n) cut ∙ rows_of-take width count n ws within) (sym (length-rows_of width count ws)))

  -- how many bits a row has, as contracts see it
  seen_width : (bit : ℕ) → bit < 64 * r.width → bit < 64 * width
  seen_width bit inside = subst (λ r. bit < 64 * r.width → bit < 64 * width) view_is (λ h. h) inside

  -- the last row's words are there
  pub last_fits : 1 ≤ length r.rows → length ws ≡ count * width → width ≤ length ws
  last_fits some long = omega (arith, last_begins width count (seen_some some))

  -- the last row's word with that bit is there
  pub last_place : (bit : ℕ) → 1 ≤ length r.rows → bit < 64 * r.width → length ws ≡ count * width → length ws - width + bit / 64 < length ws
  last_place bit some inside long = omega (arith, last_fits some long, word_inside width bit (seen_width bit inside))

  -- a row's word with that bit is there
  pub seen_place : (row bit : ℕ) → row < length r.rows → bit < 64 * r.width → length ws ≡ count * width → row * width + bit / 64 < length ws
  seen_place row bit there inside long = rw long (place_inside width count row (bit / 64) (omega (arith, seen_count)) (word_inside width bit (seen_width bit inside)))

  -- a word of the last row in which a bit has a new value
  pub seen_put : (bit place old word : ℕ) (value : Bool) → 1 ≤ length r.rows → bit < 64 * r.width → length ws ≡ count * width → place ≡ length ws - width + bit / 64 → old ≡ get_or ws place old → Puts old word (bit % 64) value → seen width count spare (set ws place word) ≡ record r { rows = with_bit r bit value }
  seen_put bit place old word value some inside long begins reads puts =
      let at : place ≡ (count - 1) * width + bit / 64 = omega (arith, last_begins width count (seen_some some)) in
      let within : place < length ws = omega (arith, last_place bit some inside long) in
      let kept : Puts (get_or ws ((count - 1) * width + bit / 64) 0) word (bit % 64) value = subst (λ p. Puts (get_or ws p 0) word (bit % 64) value) at (subst (λ w. Puts w word (bit % 64) value) (get_or_read ws place old within reads 0) puts) in
      let put : rows_of width count (set ws place word) ≡ set (rows_of width count ws) (count - 1) (set (row_of width ws (count - 1)) bit value) = ap (λ p. rows_of width count (set ws p word)) at ∙ rows_of-put width count bit word ws value (seen_some some) long (seen_width bit inside) kept in
      subst (λ r. seen width count spare (set ws place word) ≡ record r { rows = set r.rows (count - 1) (set (row_of width ws (count - 1)) bit value) }) view_is (ap (λ rows. record { width = width; rows = rows; spare = spare }) put)
      ∙ ap₂ (λ n row. record r { rows = set r.rows (n - 1) (set row bit value) }) seen_count (sym (seen_last (seen_some some)))

  -- the bit of a row's word is the bit that contracts see
  pub seen_bit : (row bit word : ℕ) → row < length r.rows → bit < 64 * r.width → length ws ≡ count * width → word ≡ get_or ws (row * width + bit / 64) word → has_bit word (bit % 64) ≡ bit_in r row bit
  seen_bit row bit word there inside long reads =
      ap (λ w. has_bit w (bit % 64)) (get_or_read ws (row * width + bit / 64) word (seen_place row bit there inside long) reads 0)
      ∙ subst (λ r. has_bit (get_or ws (row * width + bit / 64) 0) (bit % 64) ≡ bit_in r row bit) view_is
      (sym (ap (λ bits. get_or bits bit false) (row_at width count row ws [] (omega (arith, seen_count))) ∙ bit_in_row width row bit ws (seen_width bit inside)))
