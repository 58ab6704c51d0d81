-- The items of a list, as they are seen.
use Rattle.std.proofs.Common.{◌≡◌, ◌∙◌, sym, refl, ap, ℕ, zero, suc, ◌+◌, ◌-◌, ◌<◌, ◌≤◌, List, [], ◌∷◌, ◌++◌, length, drop, get_or, Option, Some, None, slice_get, arith}
use Rattle.std.proofs.lemmas.List.{drop_all}
use Rattle.lw_formula.specs.Formula.{Formula, letter}
use Rattle.lw_pool.specs.declared.id.FormId.{FormId}
use Rattle.lw_pool.specs.Region.{tree_at}
use Rattle.lw_value.specs.Values.{Val, Vals, vals, seen, seen_all, AreLive, AreItemsLive, formula, item, item_at, with_last}
use Rattle.lw_value.specs.ValueTexts.{count_of}
use Rattle.lw_eval.specs.declared.trouble.Trouble.TheVariants.{Range}
use Rattle.lw_eval.specs.Evaluations.{Got, Fails, found_or}
use Rattle.lw_eval.specs.Private.Given.{letters_of}
use Rattle.lw_eval.specs.Private.Remaining.{followed_by}
use Rattle.lw_eval.proofs.EvaluationsRepeated.{followed_by_one, followed_by_none}

pub count_seen : (ts : List Formula) (vs : List (Val FormId)) → count_of (seen_all ts (vals vs)) ≡ length vs
count_seen ts [] = refl
count_seen ts (v ∷ vs) = let p = count_seen ts vs in omega (arith, p)

-- the value that is there, else the other
abbrev the_value : Val FormId → Option (Val FormId) → Val FormId
the_value d (Some v) = v
the_value d None = d

found_from : (ts : List Formula) (vs : List (Val FormId)) (i : ℕ) (v : Val FormId) → slice_get vs i ≡ Some v → found_or Range (item_at (seen_all ts (vals vs)) (suc i)) ≡ Got (seen ts v)
found_from ts [] i v h = absurd (cc)
found_from ts (u ∷ vs) zero v h = ap (λ o. Got (seen ts (the_value u o))) h
found_from ts (u ∷ vs) (suc i) v h = found_from ts vs i v h

pub item_found : (ts : List Formula) (vs : List (Val FormId)) (n : ℕ) (v : Val FormId) → 1 ≤ n → slice_get vs (n - 1) ≡ Some v → found_or Range (item_at (seen_all ts (vals vs)) n) ≡ Got (seen ts v)
item_found ts vs n v h p = let q : suc (n - 1) ≡ n = omega (arith, h) in ap (λ k. found_or Range (item_at (seen_all ts (vals vs)) k)) (sym q) ∙ found_from ts vs (n - 1) v p

missing_from : (ts : List Formula) (vs : List (Val FormId)) (i : ℕ) → length vs ≤ i → found_or Range (item_at (seen_all ts (vals vs)) (suc i)) ≡ Fails Range
missing_from ts [] i h = refl
missing_from ts (u ∷ vs) zero h = absurd (omega (arith, h))
missing_from ts (u ∷ vs) (suc i) h = missing_from ts vs i (omega (arith, h))

none_at_zero : (ts : List Formula) (vs : List (Val FormId)) → found_or Range (item_at (seen_all ts (vals vs)) 0) ≡ Fails Range
none_at_zero ts [] = refl
none_at_zero ts (u ∷ vs) = refl

pub item_below : (ts : List Formula) (vs : List (Val FormId)) (n : ℕ) → n < 1 → found_or Range (item_at (seen_all ts (vals vs)) n) ≡ Fails Range
item_below ts vs n h = let q : n ≡ 0 = omega (arith, h) in ap (λ k. found_or Range (item_at (seen_all ts (vals vs)) k)) q ∙ none_at_zero ts vs

pub item_missing : (ts : List Formula) (vs : List (Val FormId)) (n : ℕ) → length vs < n → found_or Range (item_at (seen_all ts (vals vs)) n) ≡ Fails Range
item_missing ts vs n h = let q : suc (n - 1) ≡ n = omega (arith, h) in ap (λ k. found_or Range (item_at (seen_all ts (vals vs)) k)) (sym q) ∙ missing_from ts vs (n - 1) (omega (arith, h))

pub last_seen : (ts : List Formula) (vs : List (Val FormId)) (v : Val FormId) → seen_all ts (vals (vs ++ v ∷ [])) ≡ with_last (seen_all ts (vals vs)) (seen ts v)
last_seen ts [] v = refl
last_seen ts (u ∷ vs) v = ap (item (seen ts u)) (last_seen ts vs v)

live_from : (ts : List Formula) (vs : List (Val FormId)) (i : ℕ) (v : Val FormId) → AreItemsLive ts (vals vs) → slice_get vs i ≡ Some v → AreLive ts v
live_from ts [] i v live h = absurd (cc)
live_from ts (u ∷ vs) zero v live h = let q : u ≡ v = ap (the_value u) h in rw (sym q) live.0
live_from ts (u ∷ vs) (suc i) v live h = live_from ts vs i v live.1 h

-- a clone of an item has its ids
pub item_live : (ts : List Formula) (vs : List (Val FormId)) (i : ℕ) (v w : Val FormId) → AreItemsLive ts (vals vs) → slice_get vs i ≡ Some v → w ≡ v → AreLive ts w
item_live ts vs i v w live h p = rw p (live_from ts vs i v live h)

-- a list with a clone of a value behind it
pub list_with_last : (ts : List Formula) (old new : List (Val FormId)) (v w : Val FormId) → new ≡ old ++ w ∷ [] → w ≡ v → seen_all ts (vals new) ≡ with_last (seen_all ts (vals old)) (seen ts v)
list_with_last ts old new v w p q = rw (p, q) (last_seen ts old v)

-- the letters of names
pub next_letter : (before now : List Formula) (old new : List (Val FormId)) (a : FormId) (name : List ℕ) (rest : Vals Formula) → new ≡ old ++ formula a ∷ [] →
    seen_all now (vals old) ≡ seen_all before (vals old) → tree_at now a ≡ letter name →
    followed_by (seen_all now (vals new)) rest ≡ followed_by (seen_all before (vals old)) (item (formula (letter name)) rest)
next_letter before now old new a name rest p q r = rw (p, followed_by_one now old (formula a) rest, q, r) refl

-- the next name before those that are left
left_names : (i : ℕ) (names : List (List ℕ)) (d : List ℕ) → i < length names → drop i names ≡ get_or names i d ∷ drop (suc i) names
left_names i [] d h = absurd (omega (arith, h))
left_names zero (x ∷ names) d h = refl
left_names (suc i) (x ∷ names) d h = left_names i names d (omega (arith, h))

pub left_letters : (before : Vals Formula) (i : ℕ) (names : List (List ℕ)) (d name : List ℕ) → i < length names → name ≡ get_or names i d →
    followed_by before (item (formula (letter name)) (vals (letters_of (drop (i + 1) names)))) ≡ followed_by before (vals (letters_of (drop i names)))
left_letters before i names d name h p =
    let q : suc i ≡ i + 1 = omega arith in
    ap (λ n. followed_by before (item (formula (letter n)) (vals (letters_of (drop (i + 1) names))))) p
    ∙ sym (ap (λ ns. followed_by before (vals (letters_of ns))) (left_names i names d h ∙ ap (λ k. get_or names i d ∷ drop k names) q))

pub all_letters : (before all : Vals Formula) (i : ℕ) (names : List (List ℕ)) → length names ≤ i → followed_by before (vals (letters_of (drop i names))) ≡ all → before ≡ all
all_letters before all i names h p = sym (followed_by_none before) ∙ ap (λ ns. followed_by before (vals (letters_of ns))) (sym (drop_all i names h)) ∙ p
