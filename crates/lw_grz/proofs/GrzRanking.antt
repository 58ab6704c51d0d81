-- The ranking by the guards that a label lacks is what a search owes, in Grz.
use Rattle.std.proofs.Common.{◌≡◌, ℕ, ◌-◌, ◌<◌, ◌≤◌, true, false, not, ◌&&◌, ◌||◌, nat_eq, nat_le, List, [], ◌∷◌, Option, Some, None, inl, inr, refl, sym, ap, subst, ◌∙◌, arith, eqb-true, eq-eqb}
use Rattle.std.specs.Option.{is_some, option_to_list}
use Rattle.std.proofs.lemmas.Bool.{or_cases, or_left, or_right, and_parts, and_from, and_right, both_ways, false≢true, not-true, not_from_true, not_from_false, false_from_ne_true, leb-true, le-leb}
use Rattle.lw_formula.specs.declared.logic.Logic.TheVariants.{Grz}
use Rattle.lw_formula.specs.declared.parts.Parts.TheVariants.{Pi}
use Rattle.lw_formula.specs.Formula.{Formula, IsSubformula}
use Rattle.lw_formula.specs.Signed.{Signed}
use Rattle.lw_formula.proofs.SubformulaLists.{IsSubformula-refl}
use Rattle.lw_pool.specs.Region.{tree_at}
use Rattle.lw_proof.specs.System.{Set}
use Rattle.lw_proof.specs.Derivation.{added, has_refl, has_serial, is_nu, is_pi, kept, plus}
use Rattle.lw_closure.specs.Table.{Table, entry_at, item_count, signed_of}
use Rattle.lw_closure.specs.Items.{items}
use Rattle.lw_closure.specs.Keeps.{has_guards}
use Rattle.lw_closure.proofs.OwnPis.{nu_no_pi}
use Rattle.lw_sat.specs.Moves.{IsSide}
use Rattle.lw_sat.specs.Sets.{among, adding}
use Rattle.lw_search.specs.Private.LabelLack.{goal_modals}
use Rattle.lw_search.specs.Ranked.{IsFor, IsGoal, IsRanked}
use Rattle.lw_search.specs.Step.{askers, is_asker, seed}
use Rattle.lw_search.proofs.ItemCounts.{few_askers}
use Rattle.lw_search.proofs.StepSeeds.{steps_pi}
use Rattle.lw_search.proofs.StricterTests.{count_below-within, count_below-less}
use Rattle.lw_grz.specs.Private.LackedGuards.{by_guards, guards_lacked, is_guarded, is_in, lacks_guard}
use Rattle.lw_grz.proofs.GuardedPis.{found_guard, guarded_to, guarded_from, own_asks, guard_item, side_asks, component_asks, guard_out}

-- a label that has the guard of each π whose guard another has lacks no more
lacks_less : (t : Table) (X Y : Set ℕ) (j : ℕ) → (is_in X (entry_at t j).guard ≡ true → is_in Y (entry_at t j).guard ≡ true) → lacks_guard t Y j ≡ true → lacks_guard t X j ≡ true
lacks_less t X Y j h e =
    let both = and_parts (is_asker t j) (not (is_in Y (entry_at t j).guard)) e in
    and_from (is_asker t j) (not (is_in X (entry_at t j).guard)) both.0
    (not_from_false (is_in X (entry_at t j).guard) (false_from_ne_true (is_in X (entry_at t j).guard)
    (λ there. both_ways (is_in Y (entry_at t j).guard) (not-true (is_in Y (entry_at t j).guard) both.1) (h there))))

in_more : (X Y : Set ℕ) (o : Option ℕ) → ((g : ℕ) → o ≡ Some g → X g ≡ true → Y g ≡ true) → is_in X o ≡ true → is_in Y o ≡ true
in_more X Y None h e = e
in_more X Y (Some g) h e = h g refl e

-- what an option has
optional : (o : Option ℕ) (j : ℕ) → among (option_to_list o) j ≡ true → o ≡ Some j
optional None j e = absurd (false≢true e)
optional (Some g) j e = elim (or_cases (nat_eq g j) false e) [ inl here ↦ ap Some (eqb-true g j here) | inr none ↦ absurd (false≢true none) ]

asker_guard : (t : Table) (i : ℕ) → t.logic ≡ Grz → is_asker t i ≡ true → (g : ℕ) × ((entry_at t i).guard ≡ Some g)
asker_guard t i logic e =
    let some : (is_pi (entry_at t i).parts && is_some (entry_at t i).guard) ≡ true =
    subst (λ L. (is_pi (entry_at t i).parts && (not (has_guards L) || is_some (entry_at t i).guard)) ≡ true) logic e in
    found_guard (entry_at t i).guard (and_parts (is_pi (entry_at t i).parts) (is_some (entry_at t i).guard) some).1

module _ (ts : List Formula) (t : Table) (made : IsFor Grz ts t) where
  few_at_goal : (X : Set ℕ) → guards_lacked t X ≤ goal_modals ts t
  few_at_goal X =
      let few : guards_lacked t X ≤ askers t =
      count_below-within (lacks_guard t X) (is_asker t) (item_count t) (λ j l e. (and_parts (is_asker t j) (not (is_in X (entry_at t j).guard)) e).0) in
      let some : askers t ≤ goal_modals ts t = few_askers ts t made.keeps in
      omega arith

  begins : (X : Set ℕ) → IsGoal ts t X → is_guarded t X ≡ true
  begins X goal =
      guarded_from t X
      (λ i l there pi.
      let here : among (goal.item ∷ []) i ≡ true = subst (λ (Y : Set ℕ). Y i ≡ true) goal.only there in
      let same : goal.item ≡ i = elim (or_cases (nat_eq goal.item i) false here) [ inl e ↦ eqb-true goal.item i e | inr none ↦ absurd (false≢true none) ] in
      let formula : (signed_of ts t i).1 ≡ tree_at ts t.goal = ap (λ k. (signed_of ts t k).1) (sym same) ∙ ap (λ (x : Signed). x.1) goal.signed in
      own_asks ts t made.keeps made.logic i l pi (subst (λ f. IsSubformula f (tree_at ts t.goal)) (sym formula) (IsSubformula-refl (tree_at ts t.goal))))

  goes_on_guarded : (X : Set ℕ) (i : ℕ) (cs : List ℕ) → i < item_count t → IsSide t.logic (entry_at t i).parts cs → is_guarded t X ≡ true → is_guarded t (adding cs X) ≡ true
  goes_on_guarded X i cs l side e =
      guarded_from t (adding cs X)
      (λ j k there pi. elim (or_cases (among cs j) (X j) there) [
        | inl new ↦ side_asks ts t made.keeps made.logic i cs l side j new pi
        | inr old ↦ guarded_to t X e j k old pi
      ])

  -- the seed of a step is the component and the guard of the π, and the ν
  module _ (X : Set ℕ) (item c g : ℕ) (guard : (entry_at t item).guard ≡ Some g) where
    seed_is : (j : ℕ) → seed t X item c j ≡ ((nat_eq c j || among (option_to_list (entry_at t item).guard) j) || (is_nu (entry_at t j).parts && X j))
    seed_is j = ap (λ L. plus (items t) (added (items t) L item c) (kept (items t) L X) j) made.logic

    seed_keeps : (j : ℕ) → is_nu (entry_at t j).parts ≡ true → X j ≡ true → seed t X item c j ≡ true
    seed_keeps j nu there =
        seed_is j ∙ or_right (nat_eq c j || among (option_to_list (entry_at t item).guard) j) (is_nu (entry_at t j).parts && X j) (and_from (is_nu (entry_at t j).parts) (X j) nu there)

    seed_guard : seed t X item c g ≡ true
    seed_guard =
        seed_is g ∙ or_left (nat_eq c g || among (option_to_list (entry_at t item).guard) g) (is_nu (entry_at t g).parts && X g)
        (or_right (nat_eq c g) (among (option_to_list (entry_at t item).guard) g)
        (subst (λ o. among (option_to_list o) g ≡ true) (sym guard) (or_left (nat_eq g g) false (eq-eqb g g refl))))

    seed_guarded : item < item_count t → (entry_at t item).parts ≡ Pi c → is_guarded t (seed t X item c) ≡ true
    seed_guarded below parts =
        guarded_from t (seed t X item c)
        (λ j k there pi. elim (or_cases (nat_eq c j || among (option_to_list (entry_at t item).guard) j) (is_nu (entry_at t j).parts && X j) (sym (seed_is j) ∙ there)) [
          | inl new ↦ elim (or_cases (nat_eq c j) (among (option_to_list (entry_at t item).guard) j) new) [
            | inl here ↦ (
                let same : c ≡ j = eqb-true c j here in
                subst (λ i. is_asker t i ≡ true) same (component_asks ts t made.keeps made.logic item c below parts (subst (λ i. is_pi (entry_at t i).parts ≡ true) (sym same) pi))
                )
            | inr other ↦ absurd (nu_no_pi (entry_at t j).parts (guard_item ts t made.keeps made.logic item j below (optional (entry_at t item).guard j other)).1 pi)
          ]
          | inr old ↦ absurd (nu_no_pi (entry_at t j).parts (and_parts (is_nu (entry_at t j).parts) (X j) old).0 pi)
        ])

    seed_less : item < item_count t → is_asker t item ≡ true → X g ≡ false → guards_lacked t (seed t X item c) < guards_lacked t X
    seed_less below asker out =
        count_below-less (lacks_guard t (seed t X item c)) (lacks_guard t X) (item_count t) item
        (λ j k. lacks_less t X (seed t X item c) j (in_more X (seed t X item c) (entry_at t j).guard (λ h e. seed_keeps h (guard_item ts t made.keeps made.logic j h k e).1)))
        below
        (and_right (is_asker t item) (not (is_in (seed t X item c) (entry_at t item).guard))
        (not_from_true (is_in (seed t X item c) (entry_at t item).guard) (subst (λ o. is_in (seed t X item c) o ≡ true) (sym guard) seed_guard)))
        (and_from (is_asker t item) (not (is_in X (entry_at t item).guard)) asker
        (not_from_false (is_in X (entry_at t item).guard) (subst (λ o. is_in X o ≡ false) (sym guard) out)))

pub ranked : IsRanked Grz by_guards goal_modals
ranked = record {
  uncut = refl;
  begins = λ ts t X made goal.
      and_from (nat_le (guards_lacked t X) (goal_modals ts t)) (is_guarded t X)
      (le-leb (guards_lacked t X) (goal_modals ts t) (few_at_goal ts t made X)) (begins ts t made X goal);
  few = λ ts t made. omega arith;
  goes_on = λ ts t path n made X i cs l there side new e.
      let both = and_parts (nat_le (guards_lacked t X) n) (is_guarded t X) e in
      let few : guards_lacked t X ≤ n = leb-true (guards_lacked t X) n both.0 in
      let fewer : guards_lacked t (adding cs X) ≤ guards_lacked t X =
      count_below-within (lacks_guard t (adding cs X)) (lacks_guard t X) (item_count t)
      (λ j k. lacks_less t X (adding cs X) j (in_more X (adding cs X) (entry_at t j).guard (λ g _ old. or_right (among cs g) (X g) old))) in
      and_from (nat_le (guards_lacked t (adding cs X)) n) (is_guarded t (adding cs X))
      (le-leb (guards_lacked t (adding cs X)) n (omega arith)) (goes_on_guarded ts t made X i cs l side both.1);
  falls = λ ts t path n X item c w made e asks.
      let both = and_parts (nat_le (guards_lacked t X) n) (is_guarded t X) e in
      let few : guards_lacked t X ≤ n = leb-true (guards_lacked t X) n both.0 in
      let below = asks.items item asks.there in
      let pi = steps_pi t item c (ap has_serial made.logic) asks.steps in
      let asker : is_asker t item ≡ true = guarded_to t X both.1 item below asks.there (ap is_pi pi) in
      let guard = asker_guard t item made.logic asker in
      let out : X guard.0 ≡ false =
      guard_out ts t made.keeps made.logic X asks.items asks.unclosed item c guard.0 asks.there pi guard.1 (asks.alone (ap has_refl made.logic)) in
      let less : guards_lacked t (seed t X item c) < guards_lacked t X = seed_less ts t made X item c guard.0 guard.1 below asker out in (
        omega arith,
        (λ _. asker),
        and_from (nat_le (guards_lacked t (seed t X item c)) (n - 1)) (is_guarded t (seed t X item c))
            (le-leb (guards_lacked t (seed t X item c)) (n - 1) (omega arith)) (seed_guarded ts t made X item c guard.0 guard.1 below pi),
      );
}
