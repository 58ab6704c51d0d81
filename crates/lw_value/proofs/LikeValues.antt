-- Values without certificates are equal exactly where they are alike, with their formulas too.
use Rattle.std.proofs.Common.{◌≡◌, ◌≢◌, ℕ, ◌+◌, ◌<◌, ◌≤◌, min, Bool, Result, Ok, Err, IfOk, ◌↔◌, ◌⊎◌, inl, inr, List, [], ◌∷◌, ◌++◌, length, refl, sym, ap, ◌∙◌, subst, arith, Bor}
use Rattle.std.proofs.lemmas.List.{append-nil}
use Rattle.std.specs.Prelude.{nat_eq, IsTrue}
use Rattle.std.proofs.lemmas.Bool.Decides.{nat_tests}
use Rattle.lw_formula.specs.Formula.{Formula}
use Rattle.lw_pool.specs.declared.id.FormId.{FormId}
use Rattle.lw_pool.specs.Region.{AreIdsExact}
use Rattle.lw_value.specs.declared.value.Value.{Value}
use Rattle.lw_value.specs.Values.{Val, Vals, vals, weight, weights, seen, seen_all, AreLive, AreItemsLive, formula, truth, number, text, items, logic, certificate, naught, empty, item}
use Rattle.lw_value.specs.ValueTexts.{count_of}
use Rattle.lw_value.specs.Evidence.{EachOfCertificates, HasNoCertificate}
use Rattle.lw_value.specs.Views.{value_of, values_of}
use Rattle.lw_value.specs.Private.KeptWeight.{load}
use Rattle.lw_value.specs.Private.Likeness.{Alike, AllAlike, HaveLikeHeads, pairs_in, pairs_of, ArePairsAlike, pairs_under, lefts}
use Rattle.lw_value.proofs.EvidenceSeen.{no_certificate_seen}

mutual
  alike-itself : {A : Type 0} (v : Val A) → HasNoCertificate v → Alike v v
  alike-itself (formula a) none = refl
  alike-itself (truth b) none = refl
  alike-itself (number n) none = refl
  alike-itself (text bytes) none = refl
  alike-itself (items vs) none = all-alike-themselves vs none
  alike-itself (logic l) none = refl
  alike-itself (certificate l a e) none = none
  alike-itself naught none = tt

  all-alike-themselves : {A : Type 0} (vs : Vals A) → EachOfCertificates (λ l a e. ⊥) vs → AllAlike vs vs
  all-alike-themselves empty none = tt
  all-alike-themselves (item v vs) none = (alike-itself v none.0, all-alike-themselves vs none.1)

mutual
  alike-same : {A : Type 0} (v w : Val A) → Alike v w → v ≡ w
  alike-same (formula a) (formula b) h = ap formula h
  alike-same (truth a) (truth b) h = ap truth h
  alike-same (number m) (number n) h = ap number h
  alike-same (text a) (text b) h = ap text h
  alike-same (items vs) (items ws) h = ap items (all-alike-same vs ws h)
  alike-same (logic k) (logic l) h = ap logic h
  alike-same naught naught h = refl
  alike-same v w h = absurd h

  all-alike-same : {A : Type 0} (vs ws : Vals A) → AllAlike vs ws → vs ≡ ws
  all-alike-same empty empty h = refl
  all-alike-same (item v vs) (item w ws) h = λ i. item (alike-same v w h.0 i) (all-alike-same vs ws h.1 i)
  all-alike-same vs ws h = absurd h

module _ (ts : List Formula) (exact : AreIdsExact ts) where
  mutual
    alike-by-trees : (v w : Val FormId) → AreLive ts v → AreLive ts w → Alike (seen ts v) (seen ts w) → Alike v w
    alike-by-trees (formula a) (formula b) one other h = exact a b one other h
    alike-by-trees (truth a) (truth b) one other h = h
    alike-by-trees (number m) (number n) one other h = h
    alike-by-trees (text a) (text b) one other h = h
    alike-by-trees (items vs) (items ws) one other h = all-alike-by-trees vs ws one other h
    alike-by-trees (logic k) (logic l) one other h = h
    alike-by-trees naught naught one other h = tt
    alike-by-trees v w one other h = absurd h

    all-alike-by-trees : (vs ws : Vals FormId) → AreItemsLive ts vs → AreItemsLive ts ws → AllAlike (seen_all ts vs) (seen_all ts ws) → AllAlike vs ws
    all-alike-by-trees empty empty one other h = tt
    all-alike-by-trees (item v vs) (item w ws) one other h = (alike-by-trees v w one.0 other.0 h.0, all-alike-by-trees vs ws one.1 other.1 h.1)
    all-alike-by-trees vs ws one other h = absurd h

-- values of a pool with distinct formulas, of which the first has no certificate
pub alike-exact : (ts : List Formula) (v w : Val FormId) → AreIdsExact ts → AreLive ts v → AreLive ts w → HasNoCertificate v → Alike v w ↔ (seen ts v ≡ seen ts w)
alike-exact ts v w exact one other none = (
  (λ h. ap (seen ts) (alike-same v w h)),
  (λ e. alike-by-trees ts exact v w one other (subst (Alike (seen ts v)) e (alike-itself (seen ts v) (no_certificate_seen ts v none)))),
)

-- values that are alike weigh the same
pub alike-weight : (v w : Val FormId) → Alike v w → weight v ≡ weight w
alike-weight v w h = ap weight (alike-same v w h)

all-parts : (vs ws : Vals FormId) → AllAlike vs ws → (count_of vs ≡ count_of ws) × ArePairsAlike (pairs_in vs ws)
all-parts empty empty h = (refl, tt)
all-parts (item v vs) (item w ws) h = let rest = all-parts vs ws h.1 in (ap (λ n. n + 1) rest.0, (h.0, rest.1))
all-parts vs ws h = absurd h

all-of-parts : (vs ws : Vals FormId) → count_of vs ≡ count_of ws → ArePairsAlike (pairs_in vs ws) → AllAlike vs ws
all-of-parts empty empty count pairs = tt
all-of-parts empty (item w ws) count pairs = absurd (omega arith)
all-of-parts (item v vs) empty count pairs = absurd (omega arith)
all-of-parts (item v vs) (item w ws) count pairs = (pairs.0, all-of-parts vs ws (omega arith) pairs.1)

parts : (v w : Val FormId) → Alike v w → HaveLikeHeads v w × ArePairsAlike (pairs_of v w)
parts (formula a) (formula b) h = (h, tt)
parts (truth a) (truth b) h = (h, tt)
parts (number m) (number n) h = (h, tt)
parts (text a) (text b) h = (h, tt)
parts (items vs) (items ws) h = all-parts vs ws h
parts (logic k) (logic l) h = (h, tt)
parts naught naught h = (tt, tt)
parts v w h = absurd h

of-parts : (v w : Val FormId) → HaveLikeHeads v w → ArePairsAlike (pairs_of v w) → Alike v w
of-parts (formula a) (formula b) head pairs = head
of-parts (truth a) (truth b) head pairs = head
of-parts (number m) (number n) head pairs = head
of-parts (text a) (text b) head pairs = head
of-parts (items vs) (items ws) head pairs = all-of-parts vs ws head pairs
of-parts (logic k) (logic l) head pairs = head
of-parts naught naught head pairs = tt
of-parts v w head pairs = absurd head

pairs-append : (ps qs : List (Val FormId × Val FormId)) → ArePairsAlike (ps ++ qs) ↔ (ArePairsAlike ps × ArePairsAlike qs)
pairs-append [] qs = ((λ h. (tt, h)), (λ h. h.1))
pairs-append (p ∷ ps) qs = let rest = pairs-append ps qs in (
  (λ h. let both = rest.0 h.1 in ((h.0, both.0), both.1)),
  (λ h. (h.0.0, rest.1 (h.0.1, h.1))),
)

under-append : (xs ys : List (Bor Value × Bor Value)) → pairs_under (xs ++ ys) ≡ pairs_under xs ++ pairs_under ys
under-append [] ys = refl
under-append (x ∷ xs) ys = ap (λ ps. (value_of x.0.now, value_of x.1.now) ∷ ps) (under-append xs ys)

lefts-append : (ps qs : List (Val FormId × Val FormId)) → load (lefts (ps ++ qs)) ≡ load (lefts ps) + load (lefts qs)
lefts-append [] qs = omega arith
lefts-append (p ∷ ps) qs = omega (arith, lefts-append ps qs)

lefts-within : (vs ws : Vals FormId) → load (lefts (pairs_in vs ws)) ≤ weights vs
lefts-within empty ws = omega arith
lefts-within (item v vs) empty = omega arith
lefts-within (item v vs) (item w ws) = omega (arith, lefts-within vs ws)

lefts-lighter : (v w : Val FormId) → load (lefts (pairs_of v w)) < weight v
lefts-lighter (items vs) (items ws) = omega (arith, lefts-within vs ws)
lefts-lighter v w = omega arith

-- the last pair of those that wait, and its items in its place
module _ (before rest : List (Bor Value × Bor Value)) (p : Bor Value × Bor Value) (last : before ≡ rest ++ p ∷ []) where
  last-under : pairs_under before ≡ pairs_under rest ++ (value_of p.0.now, value_of p.1.now) ∷ []
  last-under = ap pairs_under last ∙ under-append rest (p ∷ [])

  -- pairs that wait are not all alike where the heads of the last one differ
  pub heads-needed : ArePairsAlike (pairs_under before) → HaveLikeHeads (value_of p.0.now) (value_of p.1.now)
  heads-needed h = (parts (value_of p.0.now) (value_of p.1.now) ((pairs-append (pairs_under rest) ((value_of p.0.now, value_of p.1.now) ∷ [])).0 (subst ArePairsAlike last-under h)).1.0).0

  module _ (after : List (Bor Value × Bor Value)) (put : pairs_under after ≡ pairs_under rest ++ pairs_of (value_of p.0.now) (value_of p.1.now)) where
    pub pairs-kept : HaveLikeHeads (value_of p.0.now) (value_of p.1.now) → ArePairsAlike (pairs_under after) ↔ ArePairsAlike (pairs_under before)
    pairs-kept head = (
      (λ h. let both = (pairs-append (pairs_under rest) (pairs_of (value_of p.0.now) (value_of p.1.now))).0 (subst ArePairsAlike put h) in
          subst ArePairsAlike (sym last-under) ((pairs-append (pairs_under rest) ((value_of p.0.now, value_of p.1.now) ∷ [])).1 (both.0, (of-parts (value_of p.0.now) (value_of p.1.now) head both.1, tt)))),
      (λ h. let both = (pairs-append (pairs_under rest) ((value_of p.0.now, value_of p.1.now) ∷ [])).0 (subst ArePairsAlike last-under h) in
          subst ArePairsAlike (sym put) ((pairs-append (pairs_under rest) (pairs_of (value_of p.0.now) (value_of p.1.now))).1 (both.0, (parts (value_of p.0.now) (value_of p.1.now) both.1.0).1))),
    )

    pub pairs-lighter : load (lefts (pairs_under after)) < load (lefts (pairs_under before))
    pairs-lighter = omega (
      arith,
      ap (λ ps. load (lefts ps)) put,
      ap (λ ps. load (lefts ps)) last-under,
      lefts-append (pairs_under rest) (pairs_of (value_of p.0.now) (value_of p.1.now)),
      lefts-append (pairs_under rest) ((value_of p.0.now, value_of p.1.now) ∷ []),
      lefts-lighter (value_of p.0.now) (value_of p.1.now),
    )

pairs-none : (vs ws : List Value) → (length vs ≡ 0) ⊎ (length ws ≡ 0) → pairs_in (values_of vs) (values_of ws) ≡ []
pairs-none [] ws over = refl
pairs-none (v ∷ vs) [] over = refl
pairs-none (v ∷ vs) (w ∷ ws) (inl over) = absurd (omega arith)
pairs-none (v ∷ vs) (w ∷ ws) (inr over) = absurd (omega arith)

-- where no pair of items is still to come, all are put
pub all-paired : (now old : List (Val FormId × Val FormId)) (vs ws xs ys : List Value) (v w : Val FormId) → (length vs ≡ 0) ⊎ (length ws ≡ 0)
    → now ++ pairs_in (values_of vs) (values_of ws) ≡ old ++ pairs_in (values_of xs) (values_of ys) → v ≡ items (values_of xs) → w ≡ items (values_of ys) → now ≡ old ++ pairs_of v w
all-paired now old vs ws xs ys v w over all one other =
    sym (append-nil now) ∙ ap (λ ps. now ++ ps) (sym (pairs-none vs ws over)) ∙ all ∙ (λ i. old ++ pairs_of (sym one i) (sym other i))

count-vals : (vs : List (Val FormId)) → count_of (vals vs) ≡ length vs
count-vals [] = refl
count-vals (v ∷ vs) = omega (arith, count-vals vs)

tested : (m n : ℕ) → IsTrue (nat_eq m n) → m ≡ n
tested m n t = grind (arith, nat_tests)

passed : (m n : ℕ) → m ≡ n → IsTrue (nat_eq m n)
passed m n e = grind (arith, nat_tests)

-- lists have like heads where they have as many items
pub counts-tell : (m n : ℕ) (vs ws : List (Val FormId)) (v w : Val FormId) → m ≡ length vs → n ≡ length ws → v ≡ items (vals vs) → w ≡ items (vals ws) → IsTrue (nat_eq m n) ↔ HaveLikeHeads v w
counts-tell m n vs ws v w one other left right = (
  (λ t. let e = tested m n t in subst (λ u. HaveLikeHeads u w) (sym left) (subst (λ u. HaveLikeHeads (items (vals vs)) u) (sym right) (omega (arith, e, one, other, count-vals vs, count-vals ws)))),
  (λ h. let same : count_of (vals vs) ≡ count_of (vals ws) = subst (λ u. HaveLikeHeads (items (vals vs)) u) right (subst (λ u. HaveLikeHeads u w) left h) in passed m n (omega (arith, same, one, other, count-vals vs, count-vals ws))),
)

-- what are_alike answers is what are_equal does
pub equal-as-alike : (ts : List Formula) (v w : Val FormId) → AreIdsExact ts → AreLive ts v → AreLive ts w → HasNoCertificate v → {E : Type 0} (r : Result Bool E)
    → IfOk r (λ b. IsTrue b ↔ Alike v w) → IfOk r (λ b. IsTrue b ↔ (seen ts v ≡ seen ts w))
equal-as-alike ts v w exact one other none (Ok b) h = let e = alike-exact ts v w exact one other none in ((λ t. e.0 (h.0 t)), (λ s. h.1 (e.1 s)))
equal-as-alike ts v w exact one other none (Err x) h = h

-- values of different weights are not equal
pub unequal-weights : (ts : List Formula) (v w : Val FormId) (m n most : ℕ) → AreIdsExact ts → AreLive ts v → AreLive ts w → HasNoCertificate v → m ≡ min (weight v) most → n ≡ min (weight w) most → m ≢ n → seen ts v ≡ seen ts w → ⊥
unequal-weights ts v w m n most exact one other none left right differ same =
    let e = alike-weight v w ((alike-exact ts v w exact one other none).1 same) in
    differ (left ∙ ap (λ k. min k most) e ∙ sym right)
