-- The ranking by modal depth is what a search owes, in K, KT and KD.
use Rattle.std.proofs.Common.{◌≡◌, ℕ, ◌+◌, ◌-◌, ◌<◌, ◌≤◌, Bool, true, false, ◌&&◌, nat_eq, nat_lt, List, [], ◌∷◌, inl, inr, refl, sym, ap, subst, ◌∙◌, arith, eqb-true}
use Rattle.std.proofs.lemmas.Bool.{cases_Bool, cases_lt, or_cases, and_parts, and_from, both_ways, false≢true, not-true, not_from_false, ltb-true, lt-ltb}
use Rattle.lw_formula.specs.declared.parts.Parts.TheVariants.{Nu, Pi}
use Rattle.lw_formula.specs.Formula.{Formula, depth, modal_count}
use Rattle.lw_pool.specs.Region.{tree_at}
use Rattle.lw_model.specs.Bounds.{step_bound}
use Rattle.lw_proof.specs.System.{Set}
use Rattle.lw_proof.specs.Derivation.{added, has_cut, kept, plus}
use Rattle.lw_closure.specs.Table.{Table, entry_at, item_count, signed_of}
use Rattle.lw_closure.specs.Items.{any_below, is_nu_to, items}
use Rattle.lw_closure.specs.Keeps.{has_guards}
use Rattle.lw_closure.proofs.ItemNumbers.{any_below_cases, any_below-found, is_nu_to-true}
use Rattle.lw_sat.specs.Moves.{Survives}
use Rattle.lw_sat.specs.Sets.{among, adding}
use Rattle.lw_search.specs.Ranked.{IsFor, IsGoal, IsRanked, StepsTo}
use Rattle.lw_search.specs.Step.{seed}
use Rattle.lw_search.proofs.ItemCounts.{pi_asks}
use Rattle.lw_k.specs.Private.DepthLeft.{by_depth, goal_depth, is_shallow, item_depth, logic_of}
use Rattle.lw_k.proofs.ComponentDepths.{side_depth, inside_nu, inside_pi}

-- the components of the ν alone are kept
kept_under : (reflexive serial : Bool) (t : Table) (X : Set ℕ) (j : ℕ) → kept (items t) (logic_of reflexive serial) X j ≡ true → (items t).under X j ≡ true
kept_under true serial t X j e = e
kept_under false true t X j e = e
kept_under false false t X j e = e

-- the component of the π alone is added
added_alone : (reflexive serial : Bool) (t : Table) (item c j : ℕ) → among (added (items t) (logic_of reflexive serial) item c) j ≡ true → c ≡ j
added_alone reflexive serial t item c j e = elim (or_cases (nat_eq c j) false (alone reflexive serial e)) [ inl here ↦ eqb-true c j here | inr other ↦ absurd (false≢true other) ] where
  alone : (reflexive serial : Bool) → among (added (items t) (logic_of reflexive serial) item c) j ≡ true → among (c ∷ []) j ≡ true
  alone true serial e = e
  alone false true e = e
  alone false false e = e

unguarded : (reflexive serial : Bool) → has_guards (logic_of reflexive serial) ≡ false
unguarded true serial = refl
unguarded false true = refl
unguarded false false = refl

few_steps : (reflexive serial : Bool) (m d : ℕ) → d ≤ step_bound (logic_of reflexive serial) m d
few_steps true serial m d = omega arith
few_steps false true m d = omega arith
few_steps false false m d = omega arith

module _ (ts : List Formula) (t : Table) where
  -- each item of the label has a depth of at most n
  abbrev Shallow : ℕ → Set ℕ → Type 0
  Shallow n X = (i : ℕ) → i < item_count t → X i ≡ true → item_depth ts t i ≤ n

  abbrev deeper : ℕ → Set ℕ → ℕ → Bool
  deeper n X i = X i && nat_lt n (item_depth ts t i)

  shallow_to : (n : ℕ) (X : Set ℕ) → is_shallow ts t n X ≡ true → Shallow n X
  shallow_to n X e i l there =
      elim (cases_lt n (item_depth ts t i)) [
        | inl more ↦ absurd (both_ways (any_below (deeper n X) (item_count t)) (not-true (any_below (deeper n X) (item_count t)) e)
            (any_below-found (deeper n X) (item_count t) i l (and_from (X i) (nat_lt n (item_depth ts t i)) there (lt-ltb n (item_depth ts t i) more))))
        | inr less ↦ less
      ]

  shallow_from : (n : ℕ) (X : Set ℕ) → Shallow n X → is_shallow ts t n X ≡ true
  shallow_from n X h =
      elim (cases_Bool (any_below (deeper n X) (item_count t))) [
        | inl some ↦ (
            let found = any_below_cases (deeper n X) (item_count t) some in
            let both = and_parts (X found.0) (nat_lt n (item_depth ts t found.0)) found.2 in
            let less : item_depth ts t found.0 ≤ n = h found.0 found.1 both.0 in
            let more : n < item_depth ts t found.0 = ltb-true n (item_depth ts t found.0) both.1 in
            absurd (omega arith)
            )
        | inr none ↦ not_from_false (any_below (deeper n X) (item_count t)) none
      ]

module _ (reflexive serial : Bool) (ts : List Formula) (t : Table) (made : IsFor (logic_of reflexive serial) ts t) where
  begins : (X : Set ℕ) → IsGoal ts t X → is_shallow ts t (goal_depth ts t) X ≡ true
  begins X goal =
      shallow_from ts t (goal_depth ts t) X
      (λ i l there.
      let here : among (goal.item ∷ []) i ≡ true = subst (λ (Y : Set ℕ). Y i ≡ true) goal.only there in
      let same : goal.item ≡ i = elim (or_cases (nat_eq goal.item i) false here) [ inl e ↦ eqb-true goal.item i e | inr none ↦ absurd (false≢true none) ] in
      let equal : item_depth ts t i ≡ goal_depth ts t = ap (λ k. item_depth ts t k) (sym same) ∙ ap (λ s. depth s.1) goal.signed in
      omega arith)

  goes_on : (n : ℕ) → Survives t (is_shallow ts t n)
  goes_on n X i cs l there side new e =
      let shallow = shallow_to ts t n X e in
      shallow_from ts t n (adding cs X)
      (λ j below added. elim (or_cases (among cs j) (X j) added) [
        | inl fresh ↦ (
            let less : item_depth ts t j ≤ item_depth ts t i = side_depth (signed_of ts t) (signed_of ts t i) (entry_at t i).parts (made.keeps.parts i l) t.logic cs side j fresh in
            let bound : item_depth ts t i ≤ n = shallow i l there in
            omega arith
            )
        | inr old ↦ shallow j below old
      ])

  -- what stands in the seed of a step is less deep by one than something in the label
  module _ (X : Set ℕ) (item c : ℕ) (below : item < item_count t) (there : X item ≡ true) (steps : StepsTo t item c) where
    principal_depth : item_depth ts t item ≡ item_depth ts t c + 1
    principal_depth = elim steps [
      | inl pi ↦ inside_pi (signed_of ts t) (signed_of ts t item) (entry_at t item).parts (made.keeps.parts item below) c pi
      | inr nu ↦ inside_nu (signed_of ts t) (signed_of ts t item) (entry_at t item).parts (made.keeps.parts item below) c nu.1
    ]

    under_depth : (n : ℕ) → Shallow ts t n X → (j : ℕ) → (items t).under X j ≡ true → item_depth ts t j ≤ n - 1
    under_depth n shallow j e =
        let found = any_below_cases (λ k. X k && is_nu_to j (entry_at t k).parts) (item_count t) e in
        let both = and_parts (X found.0) (is_nu_to j (entry_at t found.0).parts) found.2 in
        let nu : (entry_at t found.0).parts ≡ Nu j = is_nu_to-true j (entry_at t found.0).parts both.1 in
        let more : item_depth ts t found.0 ≡ item_depth ts t j + 1 = inside_nu (signed_of ts t) (signed_of ts t found.0) (entry_at t found.0).parts (made.keeps.parts found.0 found.1) j nu in
        let bound : item_depth ts t found.0 ≤ n = shallow found.0 found.1 both.0 in
        omega arith

    seed_depth : (n : ℕ) → Shallow ts t n X → (j : ℕ) → seed t X item c j ≡ true → item_depth ts t j ≤ n - 1
    seed_depth n shallow j e =
        let at_logic : plus (items t) (added (items t) (logic_of reflexive serial) item c) (kept (items t) (logic_of reflexive serial) X) j ≡ true =
        subst (λ L. plus (items t) (added (items t) L item c) (kept (items t) L X) j ≡ true) made.logic e in
        elim (or_cases (among (added (items t) (logic_of reflexive serial) item c) j) (kept (items t) (logic_of reflexive serial) X j) at_logic) [
          | inl first ↦ (
              let same : item_depth ts t c ≡ item_depth ts t j = ap (λ k. item_depth ts t k) (added_alone reflexive serial t item c j first) in
              let more = principal_depth in
              let bound : item_depth ts t item ≤ n = shallow item below there in
              omega arith
              )
          | inr inside ↦ under_depth n shallow j (kept_under reflexive serial t X j inside)
        ]

-- none of the logics has cuts
uncut : (reflexive serial : Bool) → has_cut (logic_of reflexive serial) ≡ false
uncut true serial = refl
uncut false true = refl
uncut false false = refl

pub ranked : (reflexive serial : Bool) → IsRanked (logic_of reflexive serial) by_depth goal_depth
ranked reflexive serial = record {
  uncut = uncut reflexive serial;
  begins = λ ts t X made goal. begins reflexive serial ts t made X goal;
  few = λ ts t made. few_steps reflexive serial (modal_count (tree_at ts t.goal)) (depth (tree_at ts t.goal));
  goes_on = λ ts t path n made. goes_on reflexive serial ts t made n;
  falls = λ ts t path n X item c w made e asks.
      let below = asks.items item asks.there in
      let shallow = shallow_to ts t n X e in
      let more = principal_depth reflexive serial ts t made X item c below asks.there asks.steps in
      let bound : item_depth ts t item ≤ n = shallow item below asks.there in (
        omega arith,
        pi_asks t item c (ap has_guards made.logic ∙ unguarded reflexive serial),
        shallow_from ts t (n - 1) (seed t X item c) (λ j l h. seed_depth reflexive serial ts t made X item c below asks.there asks.steps n shallow j h),
      );
}
