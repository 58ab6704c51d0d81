-- The list of the heights below one, and what tests of all or some of them decide.
use Rattle.std.proofs.Common.{◌≡◌, ℕ, zero, suc, ◌+◌, ◌-◌, ◌<◌, ◌≤◌, Bool, true, false, cond, List, [], ◌∷◌, ◌++◌, ◌↔◌, refl, ap, ◌∙◌, arith}
use Rattle.std.specs.Bool.{Decides}
use Rattle.std.specs.List.{Contains, filter, list_all, list_any, range_with_len}
use Rattle.std.proofs.lemmas.Bool.Decides.{Decides-like}
use Rattle.std.proofs.lemmas.List.{append-nil}
use Rattle.std.proofs.lemmas.List.Elements.{filter-append}
use Rattle.std.proofs.lemmas.List.FromFn.{length-range_with_len, get_or-range_with_len}
use Rattle.lw_formula.proofs.ListMembers.{Contains-head, Contains-tail}
use Rattle.lw_formula.proofs.ListTests.{list_all-Decides, list_any-Decides}
use Rattle.lw_trace.specs.LetterlessTruth.{heights_below}

pub heights_below-Contains : (n k : ℕ) → Contains (heights_below n) k ↔ (k < n)
heights_below-Contains n k = (
  λ h.
      let long : h.0 < n = omega (arith, h.1, length-range_with_len 0 n) in
      omega (arith, long, get_or-range_with_len 0 n h.0 k long, h.2),
  λ l. (k, omega (arith, l, length-range_with_len 0 n), omega (arith, get_or-range_with_len 0 n k k l)),
)

-- a test of all heights below n
pub all_below : (f : ℕ → Bool) (n : ℕ) → Decides (list_all f (heights_below n)) ((k : ℕ) → k < n → f k ≡ true)
all_below f n =
    Decides-like (list_all f (heights_below n))
    (λ all k l. all k ((heights_below-Contains n k).1 l))
    (λ all k h. all k ((heights_below-Contains n k).0 h))
    (list_all-Decides f (λ k. f k ≡ true) (λ k. (λ e. e, λ e. e)) (heights_below n))

-- and of some
pub some_below : (f : ℕ → Bool) (n : ℕ) → Decides (list_any f (heights_below n)) ((k : ℕ) × (k < n) × (f k ≡ true))
some_below f n =
    Decides-like (list_any f (heights_below n))
    (λ some. (some.0, (heights_below-Contains n some.0).0 some.1, some.2))
    (λ some. (some.0, (heights_below-Contains n some.0).1 some.1, some.2))
    (list_any-Decides f (λ k. f k ≡ true) (λ k. (λ e. e, λ e. e)) (heights_below n))

range_with_len-more : (a n k : ℕ) → range_with_len a (n + k) ≡ range_with_len a n ++ range_with_len (a + n) k
range_with_len-more a zero k =
    let none : 0 + k ≡ k = omega arith in
    let same : a ≡ a + 0 = omega arith in
    ap (range_with_len a) none ∙ ap (λ b. range_with_len b k) same
range_with_len-more a (suc n) k =
    let next : suc n + k ≡ suc (n + k) = omega arith in
    let same : a + 1 + n ≡ a + suc n = omega arith in
    ap (range_with_len a) next ∙ ap (λ ks. a ∷ ks) (range_with_len-more (a + 1) n k ∙ ap (λ b. range_with_len (a + 1) n ++ range_with_len b k) same)

range_with_len-least : (a n k : ℕ) → Contains (range_with_len a n) k → a ≤ k
range_with_len-least a n k h =
    let long : h.0 < n = omega (arith, h.1, length-range_with_len a n) in
    omega (arith, get_or-range_with_len a n h.0 k long, h.2)

-- where no member passes the test, none is left
pub filter-none : {X : Type 0} (p : X → Bool) (xs : List X) → ((x : X) → Contains xs x → p x ≡ false) → filter p xs ≡ []
filter-none p [] none = refl
filter-none p (x ∷ xs) none =
    ap (λ b. cond b (x ∷ filter p xs) (filter p xs)) (none x (Contains-head x xs))
    ∙ filter-none p xs (λ y h. none y (Contains-tail x xs y h))

-- numbers from n on that fail the test may be left out
pub filter-heights_below : (p : ℕ → Bool) (n k : ℕ) → n ≤ k → ((i : ℕ) → n ≤ i → p i ≡ false) → filter p (heights_below k) ≡ filter p (heights_below n)
filter-heights_below p n k l none =
    let all : k ≡ n + (k - n) = omega arith in
    ap (λ i. filter p (heights_below i)) all
    ∙ ap (filter p) (range_with_len-more 0 n (k - n))
    ∙ filter-append p (heights_below n) (range_with_len (0 + n) (k - n))
    ∙ ap (λ ks. filter p (heights_below n) ++ ks)
    (filter-none p (range_with_len (0 + n) (k - n)) (λ i h. none i (omega (arith, range_with_len-least (0 + n) (k - n) i h))))
    ∙ append-nil (filter p (heights_below n))
