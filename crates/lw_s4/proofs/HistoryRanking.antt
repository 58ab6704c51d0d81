-- The ranking by lacking ν and by the history is what a search owes, in S4 and K4.
use Rattle.std.proofs.Common.{◌≡◌, ℕ, suc, ◌+◌, ◌-◌, ◌*◌, ◌^◌, ◌<◌, ◌≤◌, Bool, true, false, not, ◌&&◌, ◌||◌, nat_eq, List, [], ◌∷◌, inl, inr, refl, ap, ◌∙◌, arith, eq-eqb}
use Rattle.std.proofs.lemmas.Bool.{cases_Bool, or_left, or_right, and_parts, and_from, and_right, both_ways, not-true, not_from_true, not_from_false, false_from_ne_true, leb-true, le-leb}
use Rattle.std.proofs.lemmas.Nat.{mul-le}
use Rattle.std.proofs.Math.Nat.{one-mul, suc-mul, pow-zero, pow-suc}
use Rattle.lw_formula.specs.declared.parts.Parts.TheVariants.{Pi}
use Rattle.lw_formula.specs.Formula.{Formula, depth}
use Rattle.lw_pool.specs.Region.{tree_at}
use Rattle.lw_model.specs.Bounds.{step_bound}
use Rattle.lw_proof.specs.System.{Set}
use Rattle.lw_proof.specs.Derivation.{has_cut, has_serial, is_nu}
use Rattle.lw_closure.specs.Table.{Table, entry_at, item_count, IsTable}
use Rattle.lw_closure.specs.Keeps.{has_guards}
use Rattle.lw_closure.proofs.ItemFormulas.{own_item}
use Rattle.lw_closure.proofs.ItemNumbers.{any_below_cases}
use Rattle.lw_counter.specs.FragmentPaths.{has_links}
use Rattle.lw_sat.specs.Moves.{Survives}
use Rattle.lw_sat.specs.Sets.{among, adding}
use Rattle.lw_search.specs.Private.LabelLack.{goal_modals, lacks_nu, nus_lacked}
use Rattle.lw_search.specs.Ranked.{Past, AsksFor, IsFor, IsRanked, StepsTo}
use Rattle.lw_search.specs.Step.{askers, is_asker, seed}
use Rattle.lw_search.proofs.ItemCounts.{few_askers, few_nus, pi_asks}
use Rattle.lw_search.proofs.StricterTests.{count_below-within, count_below-less, nus_lacked-within, nus_lacked-less}
use Rattle.lw_s4.specs.History.{has_more_nus, history}
use Rattle.lw_s4.specs.Private.HistoryRank.{by_history, fresh, is_fresh, logic_of, rank, square_of_modals}
use Rattle.lw_s4.proofs.HistoryServed.{nus_within, seed_keeps, serves}

-- one less of the first makes up for all of the second
first_falls : (l k a f g : ℕ) → l < k → f ≤ a → l * (a + 1) + f < k * (a + 1) + g
first_falls l k a f g less few =
    let more : suc l * (a + 1) ≤ k * (a + 1) = mul-le (suc l) (a + 1) k (a + 1) (omega arith) (omega arith) in
    let one : suc l * (a + 1) ≡ l * (a + 1) + (a + 1) = suc-mul l (a + 1) in
    omega arith

second_falls : (l k a f g : ℕ) → l ≤ k → f < g → l * (a + 1) + f < k * (a + 1) + g
second_falls l k a f g few less =
    let more : l * (a + 1) ≤ k * (a + 1) = mul-le l (a + 1) k (a + 1) few (omega arith) in
    omega arith

neither_rises : (l k a f g : ℕ) → l ≤ k → f ≤ g → l * (a + 1) + f ≤ k * (a + 1) + g
neither_rises l k a f g few less =
    let more : l * (a + 1) ≤ k * (a + 1) = mul-le l (a + 1) k (a + 1) few (omega arith) in
    omega arith

square : (n : ℕ) → n ^ 2 ≡ n * n
square n = pow-suc n 1 ∙ ap (λ k. k * n) (pow-suc n 0 ∙ ap (λ k. k * n) (pow-zero n) ∙ one-mul n)

within_square : (l a f m : ℕ) → l ≤ m → a ≤ m → f ≤ a → l * (a + 1) + f ≤ (m + 1) ^ 2
within_square l a f m few some less =
    let product : l * (a + 1) ≤ m * (m + 1) = mul-le l (a + 1) m (m + 1) few (omega arith) in
    let after : m + 1 ≡ suc m = omega arith in
    let whole : (m + 1) ^ 2 ≡ m * (m + 1) + (m + 1) = square (m + 1) ∙ ap (λ k. k * (m + 1)) after ∙ suc-mul m (m + 1) in
    omega arith

module _ (t : Table) where
  fresh_few : (path : List Past) (X : Set ℕ) → fresh t path X ≤ askers t
  fresh_few path X = count_below-within (is_fresh t path X) (is_asker t) (item_count t) (λ j l e. (and_parts (is_asker t j) (not (history t path X j)) e).0)

  -- a label whose history has all of another's leaves no more π outside
  fresh_less : (p q : List Past) (X Y : Set ℕ) (j : ℕ) → (history t p X j ≡ true → history t q Y j ≡ true) → is_fresh t q Y j ≡ true → is_fresh t p X j ≡ true
  fresh_less p q X Y j h e =
      let both = and_parts (is_asker t j) (not (history t q Y j)) e in
      and_from (is_asker t j) (not (history t p X j)) both.0
      (not_from_false (history t p X j) (false_from_ne_true (history t p X j) (λ old. both_ways (history t q Y j) (not-true (history t q Y j) both.1) (h old))))

  -- where a label has a ν that another lacks, one is found
  more_nu : (X Y : Set ℕ) → has_more_nus t X Y ≡ true → (i : ℕ) × (i < item_count t) × (is_nu (entry_at t i).parts ≡ true) × (X i ≡ true) × (Y i ≡ false)
  more_nu X Y e =
      let found = any_below_cases (λ i. is_nu (entry_at t i).parts && (X i && not (Y i))) (item_count t) e in
      let both = and_parts (is_nu (entry_at t found.0).parts) (X found.0 && not (Y found.0)) found.2 in
      let rest = and_parts (X found.0) (not (Y found.0)) both.1 in
      (found.0, found.1, both.0, rest.0, not-true (Y found.0) rest.1)

  module _ (table : IsTable t) where
    -- the rank doesn't rise where a label gets more
    larger_rank : (path : List Past) (X Y : Set ℕ) → ((j : ℕ) → X j ≡ true → Y j ≡ true) → rank t path Y ≤ rank t path X
    larger_rank [] X Y more =
        neither_rises (nus_lacked t Y) (nus_lacked t X) (askers t) (fresh t [] Y) (fresh t [] X) (nus_lacked-within t X Y (λ j nu. more j)) (omega arith)
    larger_rank (p ∷ path) X Y more =
        elim (cases_Bool (has_more_nus t Y p.label)) [
          | inr none ↦ fewer (λ j old. and_from (not (has_more_nus t Y p.label)) (nat_eq p.item j || history t path p.label j)
              (not_from_false (has_more_nus t Y p.label) none)
              (and_parts (not (has_more_nus t X p.label)) (nat_eq p.item j || history t path p.label j) old).1)
          | inl some ↦ elim (cases_Bool (has_more_nus t X p.label)) [
            | inl other ↦ fewer (λ j old. absurd (both_ways (has_more_nus t X p.label)
                (not-true (has_more_nus t X p.label) (and_parts (not (has_more_nus t X p.label)) (nat_eq p.item j || history t path p.label j) old).0) other))
            | inr none ↦ (
                let found = more_nu Y p.label some in
                let out : X found.0 ≡ false =
                false_from_ne_true (X found.0) (λ there. both_ways (p.label found.0) found.4 (nus_within t table X p.label none found.0 found.2 there)) in
                let less : rank t (p ∷ path) Y < rank t (p ∷ path) X =
                first_falls (nus_lacked t Y) (nus_lacked t X) (askers t) (fresh t (p ∷ path) Y) (fresh t (p ∷ path) X)
                (nus_lacked-less t X Y (λ j nu. more j) found.0 found.1 found.2 out found.3) (fresh_few (p ∷ path) Y) in
                omega arith
                )
          ]
        ]
      where
        fewer : ((j : ℕ) → history t (p ∷ path) X j ≡ true → history t (p ∷ path) Y j ≡ true) → rank t (p ∷ path) Y ≤ rank t (p ∷ path) X
        fewer h =
            neither_rises (nus_lacked t Y) (nus_lacked t X) (askers t) (fresh t (p ∷ path) Y) (fresh t (p ∷ path) X)
            (nus_lacked-within t X Y (λ j nu. more j))
            (count_below-within (is_fresh t (p ∷ path) Y) (is_fresh t (p ∷ path) X) (item_count t) (λ j l. fresh_less (p ∷ path) (p ∷ path) X Y j (h j)))

    -- the rank falls with each step on a π outside the history
    step_rank : has_links t.logic ≡ true → (path : List Past) (X : Set ℕ) (item c w : ℕ) → item < item_count t → is_asker t item ≡ true → history t path X item ≡ false →
        rank t ((record { world = w; label = X; item = item }) ∷ path) (seed t X item c) < rank t path X
    step_rank links path X item c w below asker new =
        elim (cases_Bool (has_more_nus t Y X)) [
          | inl some ↦ (
              let found = more_nu Y X some in
              first_falls (nus_lacked t Y) (nus_lacked t X) (askers t) (fresh t longer Y) (fresh t path X)
              (nus_lacked-less t X Y kept_nus found.0 found.1 found.2 found.4 found.3) (fresh_few longer Y)
              )
          | inr none ↦
              second_falls (nus_lacked t Y) (nus_lacked t X) (askers t) (fresh t longer Y) (fresh t path X) (nus_lacked-within t X Y kept_nus)
              (count_below-less (is_fresh t longer Y) (is_fresh t path X) (item_count t) item
              (λ j l. fresh_less path longer X Y j (λ old. remembers none j (or_right (nat_eq item j) (history t path X j) old)))
              below
              (and_right (is_asker t item) (not (history t longer Y item))
              (not_from_true (history t longer Y item) (remembers none item (or_left (nat_eq item item) (history t path X item) (eq-eqb item item refl)))))
              (and_from (is_asker t item) (not (history t path X item)) asker (not_from_false (history t path X item) new)))
        ]
      where
        Y : Set ℕ
        Y = seed t X item c

        longer : List Past
        longer = (record { world = w; label = X; item = item }) ∷ path

        kept_nus : (j : ℕ) → is_nu (entry_at t j).parts ≡ true → X j ≡ true → seed t X item c j ≡ true
        kept_nus = seed_keeps t table links X item c

        remembers : has_more_nus t (seed t X item c) X ≡ false → (j : ℕ) → (nat_eq item j || history t path X j) ≡ true →
            history t ((record { world = w; label = X; item = item }) ∷ path) (seed t X item c) j ≡ true
        remembers none j = and_from (not (has_more_nus t (seed t X item c) X)) (nat_eq item j || history t path X j) (not_from_false (has_more_nus t (seed t X item c) X) none)

-- what a label asks for a step on is outside its history
outside : (t : Table) (path : List Past) (X : Set ℕ) (item c : ℕ) → IsTable t → has_links t.logic ≡ true → AsksFor t path X item c →
    (entry_at t item).parts ≡ Pi c → history t path X item ≡ false
outside t path X item c table links asks pi =
    false_from_ne_true (history t path X item)
    (λ old. elim (serves t table links path X item c asks.leads old pi) [
      | inl itself ↦ asks.own itself
      | inr there ↦ asks.far there.0 there.1 there.2
    ])

linked : (reflexive : Bool) → has_links (logic_of reflexive) ≡ true
linked true = refl
linked false = refl

unguarded : (reflexive : Bool) → has_guards (logic_of reflexive) ≡ false
unguarded true = refl
unguarded false = refl

unserial : (reflexive : Bool) → has_serial (logic_of reflexive) ≡ false
unserial true = refl
unserial false = refl

uncut : (reflexive : Bool) → has_cut (logic_of reflexive) ≡ false
uncut true = refl
uncut false = refl

few_steps : (reflexive : Bool) (m d : ℕ) → (m + 1) ^ 2 ≤ step_bound (logic_of reflexive) m d
few_steps true m d = omega arith
few_steps false m d = omega arith

module _ (reflexive : Bool) (ts : List Formula) (t : Table) (made : IsFor (logic_of reflexive) ts t) where
  no_guards : has_guards t.logic ≡ false
  no_guards = ap has_guards made.logic ∙ unguarded reflexive

  links : has_links t.logic ≡ true
  links = ap has_links made.logic ∙ linked reflexive

  -- a step is on a π
  on_pi : (item c : ℕ) → StepsTo t item c → (entry_at t item).parts ≡ Pi c
  on_pi item c (inl pi) = pi
  on_pi item c (inr nu) = absurd (both_ways (has_serial t.logic) (ap has_serial made.logic ∙ unserial reflexive) nu.0)

  begins : (X : Set ℕ) → rank t [] X ≤ square_of_modals ts t
  begins X =
      within_square (nus_lacked t X) (askers t) (fresh t [] X) (goal_modals ts t)
      (few_nus ts t made.keeps (lacks_nu t X) (λ i l e. ((and_parts (is_nu (entry_at t i).parts) (not (X i)) e).0, own_item ts t made.keeps no_guards i l)))
      (few_askers ts t made.keeps)
      (fresh_few t [] X)

  goes_on : (path : List Past) (n : ℕ) → Survives t (by_history ts t path n)
  goes_on path n X i cs l there side new e =
      let few : rank t path X ≤ n = leb-true (rank t path X) n e in
      let less : rank t path (adding cs X) ≤ rank t path X = larger_rank t made.keeps.table path X (adding cs X) (λ j old. or_right (among cs j) (X j) old) in
      le-leb (rank t path (adding cs X)) n (omega arith)

  falls : (path : List Past) (n : ℕ) (X : Set ℕ) (item c w : ℕ) → by_history ts t path n X ≡ true → AsksFor t path X item c →
      (0 < n) × ((entry_at t item).parts ≡ Pi c → is_asker t item ≡ true) ×
      (by_history ts t ((record { world = w; label = X; item = item }) ∷ path) (n - 1) (seed t X item c) ≡ true)
  falls path n X item c w e asks =
      let pi = on_pi item c asks.steps in
      let asker : is_asker t item ≡ true = pi_asks t item c no_guards pi in
      let few : rank t path X ≤ n = leb-true (rank t path X) n e in
      let less : rank t ((record { world = w; label = X; item = item }) ∷ path) (seed t X item c) < rank t path X =
      step_rank t made.keeps.table links path X item c w (asks.items item asks.there) asker (outside t path X item c made.keeps.table links asks pi) in
      (omega arith, λ is. asker, le-leb (rank t ((record { world = w; label = X; item = item }) ∷ path) (seed t X item c)) (n - 1) (omega arith))

pub ranked : (reflexive : Bool) → IsRanked (logic_of reflexive) by_history square_of_modals
ranked reflexive = record {
  uncut = uncut reflexive;
  begins = λ ts t X made goal. le-leb (rank t [] X) (square_of_modals ts t) (begins reflexive ts t made X);
  few = λ ts t made. few_steps reflexive (goal_modals ts t) (depth (tree_at ts t.goal));
  goes_on = λ ts t path n made. goes_on reflexive ts t made path n;
  falls = λ ts t path n X item c w made e asks. falls reflexive ts t made path n X item c w e asks;
}
