-- What a Step uses of a label, and what the seed of a step has.
use Rattle.std.proofs.Common.{◌≡◌, ℕ, ◌<◌, true, false, not, ◌&&◌, cond, eqb, [], ◌∷◌, length, Option, Some, None, inl, inr, refl, sym, ap, subst, ◌∙◌}
use Rattle.std.specs.Option.{option_to_list, ForSome}
use Rattle.std.proofs.lemmas.Bool.{and_parts, and_from, or_cases, or_left, or_right, both_ways, cases_Bool, eq-eqb, eqb-true, false≢true, not_from_false}
use Rattle.lw_formula.specs.declared.logic.Logic.{Logic}
use Rattle.lw_formula.specs.declared.logic.Logic.TheVariants.{K, KT, S4, S5, GL, Grz, K4, KD}
use Rattle.lw_formula.specs.declared.parts.Parts.TheVariants.{Nu, Pi}
use Rattle.lw_pool.specs.declared.id.SignedId.{SignedId}
use Rattle.lw_proof.specs.declared.rule.Rule.{Rule}
use Rattle.lw_proof.specs.System.{Set, IsWithin}
use Rattle.lw_proof.specs.Tree.{Tree, node, none, more}
use Rattle.lw_proof.specs.Derivation.{added, has_cut, has_serial, is_nu, is_pi, kept, plus, premises, ClosedAll}
use Rattle.lw_proof.specs.Lean.{Gains, Grows, GrowAll}
use Rattle.lw_closure.specs.Table.{Table, IsTable, entry_at, item_at, item_count}
use Rattle.lw_closure.specs.Mapping.{OfParts}
use Rattle.lw_closure.specs.Items.{cuts, items}
use Rattle.lw_closure.proofs.ItemNumbers.{any_below-found, flip_below}
use Rattle.lw_sat.specs.Closing.{Rests}
use Rattle.lw_sat.specs.Sets.{among, without, AreBelow, IsOfItems}
use Rattle.lw_sat.proofs.UsedItems.{below_each, closed_more, grows_less}
use Rattle.lw_search.specs.Ranked.{StepsTo}
use Rattle.lw_search.specs.Step.{keeps_inside, seed}
use Rattle.lw_search.specs.Private.StepUse.{kept_of, meets, step_rule, used_step}
use Rattle.lw_search.proofs.KeptItems.{each_kept, kept_inner, kept_item, kept_some}

-- the serial logic keeps the components of the ν, and adds the component alone
serial_keeps : (t : Table) (L : Logic) (i c : ℕ) → has_serial L ≡ true → (keeps_inside L ≡ true) × (added (items t) L i c ≡ c ∷ [])
serial_keeps t K i c e = absurd (false≢true e)
serial_keeps t KT i c e = absurd (false≢true e)
serial_keeps t S4 i c e = absurd (false≢true e)
serial_keeps t S5 i c e = absurd (false≢true e)
serial_keeps t GL i c e = absurd (false≢true e)
serial_keeps t Grz i c e = absurd (false≢true e)
serial_keeps t K4 i c e = absurd (false≢true e)
serial_keeps t KD i c e = (refl, refl)

-- so what a step on a ν of the set adds is kept already
serial_seed :
    (t : Table) → has_cut t.logic ≡ false → (X : Set ℕ) → IsOfItems t X → (i c : ℕ) → X i ≡ true → has_serial t.logic ≡ true → (entry_at t i).parts ≡ Nu c → IsWithin (seed t X i c) (kept (items t) t.logic X)
serial_seed t uncut X own i c there serial nu j e =
    elim (or_cases (among (added (items t) t.logic i c) j) (kept (items t) t.logic X j) e) [
      | inl new ↦ (
          let alone : among (c ∷ []) j ≡ true = subst (λ cs. among cs j ≡ true) (serial_keeps t t.logic i c serial).1 new in
          let here : c ≡ j = elim (or_cases (eqb c j) false alone) [ inl a ↦ eqb-true c j a | inr b ↦ absurd (false≢true b) ] in
          subst (λ k. kept (items t) t.logic X k ≡ true) here (each_kept t uncut X own c i there (kept_inner t uncut i (own i there) c (sym nu) (serial_keeps t t.logic i c serial).0))
          )
      | inr old ↦ old
    ]

-- a step uses its principal, and each item of which it keeps something that the proof above it uses
module _ (t : Table) (table : IsTable t) (uncut : has_cut t.logic ≡ false) (X : Set ℕ) (own : IsOfItems t X) (item c : ℕ) (U : Set ℕ) (p : Tree SignedId) (below : item < item_count t) (there : X item ≡ true) (steps : StepsTo t item c) (r : Rests t U (seed t X item c) p) where
  abbrev V : Set ℕ
  V = used_step t X item c U

  abbrev W : Set ℕ
  W = without (added (items t) t.logic item c) U

  used_within : IsWithin V X
  used_within i e =
      elim (or_cases (eqb item i) (X i && meets t (kept_of t i) W) e) [ inl a ↦ subst (λ k. X k ≡ true) (eqb-true item i a) there | inr b ↦ (and_parts (X i) (meets t (kept_of t i) W) b).0 ]

  used_covers : IsWithin U (plus (items t) (added (items t) t.logic item c) (kept (items t) t.logic V))
  used_covers j e =
      elim (cases_Bool (among (added (items t) t.logic item c) j)) [
        | inl new ↦ or_left (among (added (items t) t.logic item c) j) (kept (items t) t.logic V j) new
        | inr old ↦ or_right (among (added (items t) t.logic item c) j) (kept (items t) t.logic V j) (from_label old)
      ] where
        from_label : among (added (items t) t.logic item c) j ≡ false → kept (items t) t.logic V j ≡ true
        from_label old =
            elim (or_cases (among (added (items t) t.logic item c) j) (kept (items t) t.logic X j) (r.within j e)) [
              | inl new ↦ absurd (both_ways (among (added (items t) t.logic item c) j) old new)
              | inr h ↦ (
                  let (i, here, k) = kept_some t uncut X own j h in
                  let left : W j ≡ true = and_from (not (among (added (items t) t.logic item c) j)) (U j) (not_from_false (among (added (items t) t.logic item c) j) old) e in
                  let met : meets t (kept_of t i) W ≡ true = any_below-found (λ m. kept_of t i m && W m) (item_count t) j (kept_item t uncut X own j table h) (and_from (kept_of t i j) (W j) k left) in
                  each_kept t uncut V (λ m v. own m (used_within m v)) j i (or_right (eqb item i) (X i && meets t (kept_of t i) W) (and_from (X i) (meets t (kept_of t i) W) here met)) k
                  )
            ]

  used_item : V item ≡ true
  used_item = or_left (eqb item item) (X item && meets t (kept_of t item) W) (eq-eqb item item refl)

  used_own : IsOfItems t V
  used_own i e = own i (used_within i e)

  rests_pi : (entry_at t item).parts ≡ Pi c → Rests t V X (node Rule.Step (item_at t item) (more p none))
  rests_pi parts = record {
    tree = node Rule.Step item (more r.tree none);
    named = ap (λ q. node Rule.Step (item_at t item) (more q none)) r.named;
    principals = (below, (r.principals, tt));
    within = used_within;
    closes = (
      (ap is_pi parts, used_item),
      subst (λ q. ClosedAll (items t) (cuts t) t.logic (premises (items t) t.logic Rule.Step item q V) (more r.tree none)) (sym parts)
          (closed_more t r.tree U (plus (items t) (added (items t) t.logic item c) (kept (items t) t.logic V)) used_covers r.closes, tt),
    );
    grows = subst (λ q. Gains Rule.Step X (premises (items t) t.logic Rule.Step item q X) × GrowAll (items t) t.logic (premises (items t) t.logic Rule.Step item q X) (more r.tree none)) (sym parts) (tt, (r.grows, tt));
  }

  rests_nu : has_serial t.logic ≡ true → (entry_at t item).parts ≡ Nu c → Rests t V X (node Rule.Serial (item_at t item) (more p none))
  rests_nu serial parts = record {
    tree = node Rule.Serial item (more r.tree none);
    named = ap (λ q. node Rule.Serial (item_at t item) (more q none)) r.named;
    principals = (below, (r.principals, tt));
    within = used_within;
    closes = (
      (serial, ap is_nu parts, used_item),
      subst (λ q. ClosedAll (items t) (cuts t) t.logic (premises (items t) t.logic Rule.Serial item q V) (more r.tree none)) (sym parts)
          (closed_more t r.tree U (kept (items t) t.logic V) (λ j e. serial_seed t uncut V used_own item c used_item serial parts j (used_covers j e)) r.closes, tt),
    );
    grows = subst (λ q. Gains Rule.Serial X (premises (items t) t.logic Rule.Serial item q X) × GrowAll (items t) t.logic (premises (items t) t.logic Rule.Serial item q X) (more r.tree none)) (sym parts)
        (tt, (grows_less t r.tree (kept (items t) t.logic X) (seed t X item c) (λ j e. or_right (among (added (items t) t.logic item c) j) (kept (items t) t.logic X j) e) r.grows, tt));
  }

  pub rests_step : Rests t V X (node (step_rule t item) (item_at t item) (more p none))
  rests_step =
      let of_rule : Rule → Type 0 = λ rule. Rests t V X (node rule (item_at t item) (more p none)) in
      elim steps [
        | inl pi ↦ subst (λ q. of_rule (cond (is_nu q) Rule.Serial Rule.Step)) (sym pi) (rests_pi pi)
        | inr nu ↦ subst (λ q. of_rule (cond (is_nu q) Rule.Serial Rule.Step)) (sym nu.1) (rests_nu nu.0 nu.1)
      ]

-- what a step adds are items
pub added_below : (t : Table) → IsTable t → (i c : ℕ) → i < item_count t → c < item_count t → AreBelow (item_count t) (added (items t) t.logic i c)
added_below t table i c l m = go t.logic where
  guarded : (o : Option ℕ) → ForSome o (λ j. j < item_count t) → AreBelow (item_count t) (c ∷ option_to_list o)
  guarded None h = (m, tt)
  guarded (Some g) h = (m, (h g refl, tt))

  go : (L : Logic) → AreBelow (item_count t) (added (items t) L i c)
  go K = (m, tt)
  go KT = (m, tt)
  go S4 = (m, tt)
  go S5 = (m, tt)
  go GL = (m, (flip_below i (length t.forms) l, tt))
  go Grz = guarded (entry_at t i).guard (table.guard i l)
  go K4 = (m, tt)
  go KD = (m, tt)

-- where the logic isn't serial, steps are on π alone
pub steps_pi : (t : Table) (i c : ℕ) → has_serial t.logic ≡ false → StepsTo t i c → (entry_at t i).parts ≡ Pi c
steps_pi t i c apart (inl pi) = pi
steps_pi t i c apart (inr nu) = absurd (false≢true (sym apart ∙ nu.0))

pub inner_below : (t : Table) → IsTable t → (i c : ℕ) → i < item_count t → StepsTo t i c → c < item_count t
inner_below t table i c l (inl e) = subst (OfParts (λ j. j < item_count t)) e (table.parts i l)
inner_below t table i c l (inr e) = subst (OfParts (λ j. j < item_count t)) e.1 (table.parts i l)

-- what a seed has: items alone, and first the component of its principal
pub seed_items : (t : Table) → IsTable t → has_cut t.logic ≡ false → (X : Set ℕ) (i c : ℕ) → IsOfItems t X → X i ≡ true → StepsTo t i c → IsOfItems t (seed t X i c)
seed_items t table uncut X i c own there parts j e =
    elim (or_cases (among (added (items t) t.logic i c) j) (kept (items t) t.logic X j) e) [
      | inl a ↦ below_each (item_count t) (added (items t) t.logic i c) (added_below t table i c (own i there) (inner_below t table i c (own i there) parts)) j a
      | inr b ↦ kept_item t uncut X own j table b
    ]

added_first : (t : Table) (L : Logic) (i c : ℕ) → among (added (items t) L i c) c ≡ true
added_first t K i c = or_left (eqb c c) false (eq-eqb c c refl)
added_first t KT i c = or_left (eqb c c) false (eq-eqb c c refl)
added_first t S4 i c = or_left (eqb c c) false (eq-eqb c c refl)
added_first t S5 i c = or_left (eqb c c) false (eq-eqb c c refl)
added_first t GL i c = or_left (eqb c c) _ (eq-eqb c c refl)
added_first t Grz i c = or_left (eqb c c) _ (eq-eqb c c refl)
added_first t K4 i c = or_left (eqb c c) false (eq-eqb c c refl)
added_first t KD i c = or_left (eqb c c) false (eq-eqb c c refl)

pub seed_first : (t : Table) (X : Set ℕ) (i c : ℕ) → seed t X i c c ≡ true
seed_first t X i c = or_left (among (added (items t) t.logic i c) c) (kept (items t) t.logic X c) (added_first t t.logic i c)
