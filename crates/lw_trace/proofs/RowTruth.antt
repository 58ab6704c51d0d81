-- Rows of truth values are made of those of the operands.
use Rattle.std.proofs.Common.{◌≡◌, ℕ, zero, suc, ◌+◌, Bool, true, false, not, ◌&&◌, ◌||◌, List, [], ◌∷◌, ◌++◌, map, get_or, take, replicate, refl, sym, ap, ◌∙◌, arith}
use Rattle.std.specs.Bool.{beq}
use Rattle.std.specs.List.{zip, list_all, list_any, range_with_len}
use Rattle.std.proofs.lemmas.List.Folds.{list_all-map}
use Rattle.std.proofs.lemmas.List.FromFn.{length-map-range_with_len, get_or-map-range_with_len, take-map-range_with_len, map-range_with_len_more}
use Rattle.std.proofs.lemmas.Simd.{map-map}
use Rattle.lw_formula.specs.Formula.{Formula, letter, falsum, verum, neg, conj, disj, impl, equi, nec, poss, depth}
use Rattle.lw_trace.specs.LetterlessTruth.{holds_at, rest, heights_below, trace_of}
use Rattle.lw_trace.specs.Private.TruthRows.{truth_row, all_before, some_before, places_apart, read_off}
use Rattle.lw_trace.proofs.BelowHeights.{heights_below-Contains, filter-heights_below}
use Rattle.lw_trace.proofs.MappedLists.{map-same, list_any-map, map-zip, places-filter}
use Rattle.lw_trace.proofs.TraceTruth.{same_trace, no_exception}

-- a row of one value
same_values : (b : Bool) (a n : ℕ) → replicate n b ≡ map (λ _. b) (range_with_len a n)
same_values b a zero = refl
same_values b a (suc n) = ap (λ bs. b ∷ bs) (same_values b (a + 1) n)

pub letter_row : (p : List ℕ) (n : ℕ) → replicate n false ≡ truth_row (letter p) n
letter_row p n = same_values false 0 n

pub falsum_row : (n : ℕ) → replicate n false ≡ truth_row falsum n
falsum_row n = same_values false 0 n

pub verum_row : (n : ℕ) → replicate n true ≡ truth_row verum n
verum_row n = same_values true 0 n

pub neg_row : (a : Formula) (n : ℕ) → map (λ b. not b) (truth_row a n) ≡ truth_row (neg a) n
neg_row a n = map-map (λ b. not b) (holds_at a) (heights_below n)

pub conj_row : (a b : Formula) (n : ℕ) → map (λ p. p.0 && p.1) (zip (truth_row a n) (truth_row b n)) ≡ truth_row (conj a b) n
conj_row a b n = map-zip (holds_at a) (holds_at b) (λ p. p.0 && p.1) (heights_below n)

pub disj_row : (a b : Formula) (n : ℕ) → map (λ p. p.0 || p.1) (zip (truth_row a n) (truth_row b n)) ≡ truth_row (disj a b) n
disj_row a b n = map-zip (holds_at a) (holds_at b) (λ p. p.0 || p.1) (heights_below n)

pub impl_row : (a b : Formula) (n : ℕ) → map (λ p. not p.0 || p.1) (zip (truth_row a n) (truth_row b n)) ≡ truth_row (impl a b) n
impl_row a b n = map-zip (holds_at a) (holds_at b) (λ p. not p.0 || p.1) (heights_below n)

pub equi_row : (a b : Formula) (n : ℕ) → map (λ p. beq p.0 p.1) (zip (truth_row a n) (truth_row b n)) ≡ truth_row (equi a b) n
equi_row a b n = map-zip (holds_at a) (holds_at b) (λ p. beq p.0 p.1) (heights_below n)

pub nec_row : (a : Formula) (n : ℕ) → all_before (truth_row a n) ≡ truth_row (nec a) n
nec_row a n =
    ap (λ k. map (λ i. list_all (λ b. b) (take i (truth_row a n))) (heights_below k)) (length-map-range_with_len (holds_at a) 0 n)
    ∙ map-same (λ i. list_all (λ b. b) (take i (truth_row a n))) (holds_at (nec a)) (heights_below n)
    (λ k h.
    ap (list_all (λ b. b)) (take-map-range_with_len (holds_at a) 0 n k (omega (arith, (heights_below-Contains n k).0 h)))
    ∙ list_all-map (λ b. b) (holds_at a) (heights_below k))

pub poss_row : (a : Formula) (n : ℕ) → some_before (truth_row a n) ≡ truth_row (poss a) n
poss_row a n =
    ap (λ k. map (λ i. list_any (λ b. b) (take i (truth_row a n))) (heights_below k)) (length-map-range_with_len (holds_at a) 0 n)
    ∙ map-same (λ i. list_any (λ b. b) (take i (truth_row a n))) (holds_at (poss a)) (heights_below n)
    (λ k h.
    ap (list_any (λ b. b)) (take-map-range_with_len (holds_at a) 0 n k (omega (arith, (heights_below-Contains n k).0 h)))
    ∙ list_any-map (λ b. b) (holds_at a) (heights_below k))

-- one value more
pub more_values : (f : ℕ → Bool) (n : ℕ) (old new : List Bool) (b : Bool) → new ≡ old ++ b ∷ [] → old ≡ map f (range_with_len 0 n) → b ≡ f n →
    new ≡ map f (range_with_len 0 (n + 1))
more_values f n old new b is was own = is ∙ (λ i. was i ++ own i ∷ []) ∙ sym (map-range_with_len_more f 0 n n (omega arith))

-- read off at the modal depth, the row of all heights up to it is the trace
pub read_off-truth_row : (a : Formula) → read_off (truth_row a (depth a + 1)) (depth a) ≡ trace_of a
read_off-truth_row a =
    let last : get_or (truth_row a (depth a + 1)) (depth a) false ≡ rest a =
    get_or-map-range_with_len (holds_at a) 0 (depth a + 1) (depth a) (depth a) false (omega arith) (omega arith) in
    same_trace (read_off (truth_row a (depth a + 1)) (depth a)) (trace_of a) last
    (ap (places_apart (truth_row a (depth a + 1))) last
    ∙ places-filter (holds_at a) (λ b. not (beq b (rest a))) 0 (depth a + 1)
    ∙ filter-heights_below (λ n. not (beq (holds_at a n) (rest a))) (depth a) (depth a + 1) (omega arith) (no_exception a))
