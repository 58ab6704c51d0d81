-- The table that is built is the closure's.
use Rattle.std.proofs.Common.{◌≡◌, ℕ, ◌+◌, ◌-◌, ◌*◌, ◌/◌, ◌<◌, ◌≤◌, Bool, true, false, cond, Option, Some, None, List, length, get_or, ◌↔◌, inl, inr, refl, sym, ap, subst, ◌∙◌, arith}
use Rattle.std.specs.Option.{option_map}
use Rattle.std.specs.List.{All, Contains}
use Rattle.std.proofs.lemmas.Bool.{cases_order}
use Rattle.std.proofs.lemmas.List.{get_or_default, get_or_past}
use Rattle.lw_formula.specs.declared.logic.Logic.{Logic}
use Rattle.lw_formula.specs.declared.logic.Logic.TheVariants.{K, KT, S4, S5, GL, Grz, K4, KD}
use Rattle.lw_formula.specs.declared.parts.Parts.TheVariants.{Nothing}
use Rattle.lw_formula.specs.declared.sign.Sign.TheVariants.{T, F}
use Rattle.lw_formula.specs.FiniteModel.{AreDistinct}
use Rattle.lw_formula.specs.Formula.{Formula, nec, poss, IsSubformula}
use Rattle.lw_formula.specs.Signed.{Signed}
use Rattle.lw_formula.specs.Components.{parts_of, guard_of}
use Rattle.lw_formula.proofs.SubformulaLists.{IsSubformula-refl, IsSubformula-trans}
use Rattle.lw_pool.specs.declared.id.FormId.{FormId}
use Rattle.lw_pool.specs.Region.{tree_at, IsLive, AreIdsExact, AreOperandsBelow, AreSubformulas, Grows}
use Rattle.lw_pool.proofs.SubformulasBelow.{operand_within}
use Rattle.lw_proof.specs.Derivation.{is_pi, is_subformula}
use Rattle.lw_closure.specs.declared.entry.Entry.{Entry}
use Rattle.lw_closure.specs.declared.fault.TheConstants.{SUBFORMULA_LIMIT}
use Rattle.lw_closure.specs.Private.NumberedForms.{IsNumbering}
use Rattle.lw_closure.specs.Private.GuardNumbers.{own_guard, IsOfOwnGuard, HasGuards, FitsLogic}
use Rattle.lw_closure.specs.Private.TableEntries.{IsEntry, AreEntries}
use Rattle.lw_closure.specs.Table.{Table, IsTable, item_count, entry_at, form_of, form_at, signed_of}
use Rattle.lw_closure.specs.Keeps.{Keeps, guard_in, IsOfGuard, IsOfClosure}
use Rattle.lw_closure.proofs.GrownClosures.{stands_on, stood}
use Rattle.lw_closure.proofs.ItemFormulas.{guarded, is_subformula-true, is_subformula-means}
use Rattle.lw_closure.proofs.MappedComponents.{is_pi-map}
use Rattle.lw_closure.proofs.LongerNumberings.{Stands, member_stands}

-- ids that ascend are distinct
ascending_distinct : (ts : List Formula) (a : FormId) (ids : List FormId) → AreSubformulas ts a ids → AreDistinct ids
ascending_distinct ts a ids own i j d l m e = let lt = own.ascending i j d l m in let same = ap (λ b. b.0) e in omega (arith, lt, same)

module _ (ts : List Formula) (goal : FormId) (ids : List FormId) (own : AreSubformulas ts goal ids) where
  place_live : (i : ℕ) → i < length ids → IsLive ts (form_of ids i) × IsSubformula (form_at ts ids i) (tree_at ts goal)
  place_live i l = (own.exact (form_of ids i)).0 (i, l, get_or_default ids i (form_of ids i) (record { 0 = 0 }) l)

  pub goal_stands : (c : Formula) → Stands ts ids c ↔ IsSubformula c (tree_at ts goal)
  goal_stands c = (
    λ h. subst (λ f. IsSubformula f (tree_at ts goal)) h.2 (place_live h.0 h.1).1,
    λ s. let r = own.each c s in subst (Stands ts ids) r.2 (member_stands ts ids r.0 r.1),
  )

  -- of ascending ids a lesser one stands earlier
  lesser_earlier : (i : ℕ) (b : FormId) → i < length ids → (h : Contains ids b) → b.0 < (form_of ids i).0 → h.0 < i
  lesser_earlier i b l h lt =
      let e : (form_of ids h.0).0 ≡ b.0 = ap (λ a. a.0) (get_or_default ids h.0 (record { 0 = 0 }) b h.1 ∙ h.2) in
      elim (cases_order h.0 i) [
        | inl same ↦ (let f : (form_of ids h.0).0 ≡ (form_of ids i).0 = ap (λ k. (form_of ids k).0) same in absurd (omega arith))
        | inr q ↦ elim q [
          | inl earlier ↦ earlier
          | inr later ↦ (let m = own.ascending i h.0 (record { 0 = 0 }) later h.1 in absurd (omega (arith, m)))
        ]
      ]

  pub own_numbering : AreOperandsBelow ts → IsNumbering ts ids
  own_numbering below = record {
    live = λ i d l. subst (IsLive ts) (get_or_default ids i (record { 0 = 0 }) d l) (place_live i l).0;
    distinct = ascending_distinct ts goal ids own;
    operands = λ i c l o.
        let p = place_live i l in
        let r = below (form_of ids i) p.0 c o in
        let inside : IsSubformula c (tree_at ts goal) = IsSubformula-trans c (form_at ts ids i) (tree_at ts goal) (operand_within c (form_at ts ids i) o) p.1 in
        let there : Contains ids r.0 = (own.exact r.0).1 (omega (arith, r.1, p.0), subst (λ f. IsSubformula f (tree_at ts goal)) (sym r.2) inside) in
        (there.0, lesser_earlier i r.0 l there r.1, ap (tree_at ts) (get_or_default ids there.0 (record { 0 = 0 }) r.0 there.1 ∙ there.2) ∙ r.2);
  }

-- the π that has a guard
pi_of_guard : (f : Formula) (g : Signed) → own_guard f ≡ Some g → (s : Signed) × (s.1 ≡ f) × (guard_of s ≡ Some g)
pi_of_guard (nec a) g e = ((F, nec a), refl, e)
pi_of_guard (poss a) g e = ((T, poss a), refl, e)
pi_of_guard _ g e = cc

-- the guard of a π is that of its formula
guard_of-own : (s : Signed) → guard_of s ≡ cond (is_pi (parts_of s)) (own_guard s.1) None
guard_of-own (T, poss a) = refl
guard_of-own (F, nec a) = refl
guard_of-own _ = refl

own_of-guard : (s g : Signed) → guard_of s ≡ Some g → own_guard s.1 ≡ Some g
own_of-guard s g e = go (is_pi (parts_of s)) (sym (guard_of-own s) ∙ e) where
  go : (b : Bool) → cond b (own_guard s.1) None ≡ Some g → own_guard s.1 ≡ Some g
  go true h = h
  go false h = cc

no_guard : (n : ℕ) (found : List (Option ℕ)) → length found ≡ 0 → get_or found n None ≡ None
no_guard n found e = get_or_past found n None (omega arith)

few_forms : (logic : Logic) (own forms limit : ℕ) (found : List (Option ℕ)) → FitsLogic logic own found → own ≤ limit → forms ≤ own + 3 * (length found - 1) → forms ≤ limit + 3 * (limit - 1)
few_forms Grz own forms limit found fits l m = omega arith
few_forms K own forms limit found fits l m = omega arith
few_forms KT own forms limit found fits l m = omega arith
few_forms S4 own forms limit found fits l m = omega arith
few_forms S5 own forms limit found fits l m = omega arith
few_forms GL own forms limit found fits l m = omega arith
few_forms K4 own forms limit found fits l m = omega arith
few_forms KD own forms limit found fits l m = omega arith

module _ (old ts : List Formula) (logic : Logic) (goal : FormId) (own forms : List FormId) (found : List (Option ℕ)) (entries : List Entry)
    (live : IsLive old goal) (is_own : AreSubformulas old goal own) (below : AreOperandsBelow old) (grows : Grows old ts) (few : length own ≤ SUBFORMULA_LIMIT) where
  abbrev t : Table
  t = record { logic = logic; goal = goal; forms = forms; entries = entries }

  abbrev g : Formula
  g = tree_at ts goal

  own_live : All (IsLive old) own
  own_live = (own_numbering old goal own is_own below).live

  same_goal : g ≡ tree_at old goal
  same_goal = grows.same goal live

  own_stands : (c : Formula) → Stands ts own c ↔ IsSubformula c g
  own_stands c = (
    λ h. subst (IsSubformula c) (sym same_goal) ((goal_stands old goal own is_own c).0 (stood old ts grows own own_live (length own) (omega arith) c h)),
    λ s. stands_on old ts grows own own_live (length own) (omega arith) c ((goal_stands old goal own is_own c).1 (subst (IsSubformula c) same_goal s)),
  )

  module _ (has : HasGuards ts own forms found) (fits : FitsLogic logic (length own) found) (each : AreEntries ts forms found entries) (whole : length entries ≡ 2 * length forms) where
    abbrev e : ℕ → Entry
    e i = entry_at t i

    is_entry : (i : ℕ) → i < item_count t → IsEntry ts forms found i (e i)
    is_entry i l = each i (record { parts = Nothing; guard = None; absurd = false }) (omega arith)

    pub is_table : IsTable t
    is_table = record {
      goal =
          let h : Contains own goal = (is_own.exact goal).1 (live, IsSubformula-refl (tree_at old goal)) in
          let l : h.0 < length forms = omega (arith, h.1, has.longer) in
          (h.0, l, get_or_default forms h.0 goal (record { 0 = 0 }) l ∙ has.front h.0 h.1 ∙ get_or_default own h.0 (record { 0 = 0 }) goal h.1 ∙ h.2);
      few = few_forms logic (length own) (length forms) SUBFORMULA_LIMIT found fits few has.few;
      whole = whole;
      parts = λ i l. (is_entry i l).within;
      guard = λ i l j q. guard_within (is_pi (e i).parts) (i / 2) j (sym (is_entry i l).guard ∙ q);
    } where
      guard_within : (b : Bool) (k j : ℕ) → cond b (get_or found k None) None ≡ Some j → j < 2 * length forms
      guard_within false k j q = cc
      guard_within true k j q =
          elim (cases_order k (length found)) [
            | inl same ↦ (let n : get_or found k None ≡ None = get_or_past found k None (omega arith) in cc)
            | inr r ↦ elim r [
              | inl lt ↦ has.within k lt j q
              | inr gt ↦ (let n : get_or found k None ≡ None = get_or_past found k None (omega arith) in cc)
            ]
          ]

    module _ (ids : AreIdsExact ts) where
      distinct : (i j : ℕ) → i < length forms → j < length forms → form_at ts forms i ≡ form_at ts forms j → i ≡ j
      distinct i j l m q =
          let a : FormId = record { 0 = 0 } in
          let same : form_of forms i ≡ form_of forms j = ids (form_of forms i) (form_of forms j) (has.numbering.live i a l) (has.numbering.live j a m) q in
          elim (cases_order i j) [
            | inl p ↦ p
            | inr r ↦ elim r [ inl lt ↦ absurd (has.numbering.distinct i j a lt m same) | inr gt ↦ absurd (has.numbering.distinct j i a gt l (sym same)) ]
          ]

      own_front : (i : ℕ) → i < length own → form_at ts forms i ≡ form_at ts own i
      own_front i l = ap (tree_at ts) (has.front i l)

      -- the goal's subformulas are the first formulas
      own_place : (i : ℕ) → i < length forms → IsSubformula (form_at ts forms i) g → i < length own
      own_place i l s =
          let r = (own_stands (form_at ts forms i)).1 s in
          let same : r.0 ≡ i = distinct r.0 i (omega (arith, r.1, has.longer)) l (own_front r.0 r.1 ∙ r.2) in
          subst (λ k. k < length own) same r.1

      own_subformula : (i : ℕ) → i < length own → IsSubformula (form_at ts own i) g
      own_subformula i l = (own_stands (form_at ts own i)).0 (i, l, refl)

      found_guard : (logic' : Logic) → logic' ≡ logic → (c : Formula) (j : ℕ) → j < length found → IsOfOwnGuard (form_at ts own j) c → IsOfGuard logic' g c
      found_guard Grz q c j l h =
          let m : j < length own = omega (arith, subst (λ x. FitsLogic x (length own) found) (sym q) fits) in
          let p = pi_of_guard (form_at ts own j) h.0 h.1 in
          let inside : is_subformula g p.0.1 ≡ true = ap (is_subformula g) p.1 ∙ is_subformula-true g (form_at ts own j) (own_subformula j m) in
          (p.0, h.0, ap (λ b. cond b (guard_of p.0) None) inside ∙ p.2, h.2)
      found_guard K q c j l h = absurd (omega (arith, subst (λ x. FitsLogic x (length own) found) (sym q) fits))
      found_guard KT q c j l h = absurd (omega (arith, subst (λ x. FitsLogic x (length own) found) (sym q) fits))
      found_guard S4 q c j l h = absurd (omega (arith, subst (λ x. FitsLogic x (length own) found) (sym q) fits))
      found_guard S5 q c j l h = absurd (omega (arith, subst (λ x. FitsLogic x (length own) found) (sym q) fits))
      found_guard GL q c j l h = absurd (omega (arith, subst (λ x. FitsLogic x (length own) found) (sym q) fits))
      found_guard K4 q c j l h = absurd (omega (arith, subst (λ x. FitsLogic x (length own) found) (sym q) fits))
      found_guard KD q c j l h = absurd (omega (arith, subst (λ x. FitsLogic x (length own) found) (sym q) fits))

      guard_found : (logic' : Logic) → logic' ≡ logic → (c : Formula) → IsOfGuard logic' g c → (j : ℕ) × (j < length found) × IsOfOwnGuard (form_at ts own j) c
      guard_found Grz q c h =
          let p = guarded Grz g h.0 h.1 h.2 in
          let r = (own_stands h.0.1).1 p.0 in (
            r.0,
            omega (arith, r.1, subst (λ x. FitsLogic x (length own) found) (sym q) fits),
            (h.1, ap own_guard r.2 ∙ own_of-guard h.0 h.1 p.1, h.3),
          )
      guard_found K q c h = cc (h.2)
      guard_found KT q c h = cc (h.2)
      guard_found S4 q c h = cc (h.2)
      guard_found S5 q c h = cc (h.2)
      guard_found GL q c h = cc (h.2)
      guard_found K4 q c h = cc (h.2)
      guard_found KD q c h = cc (h.2)

      -- the guard that an item has, by the formula's own
      guard_shown : (i : ℕ) → i < item_count t →
          option_map (signed_of ts t) (e i).guard ≡ cond (is_pi (parts_of (signed_of ts t i))) (option_map (signed_of ts t) (get_or found (i / 2) None)) None
      guard_shown i l =
          let shape : is_pi (e i).parts ≡ is_pi (parts_of (signed_of ts t i)) = sym (is_pi-map (signed_of ts t) (e i).parts) ∙ ap is_pi (is_entry i l).parts in
          ap (option_map (signed_of ts t)) ((is_entry i l).guard ∙ ap (λ b. cond b (get_or found (i / 2) None) None) shape)
          ∙ mapped (is_pi (parts_of (signed_of ts t i))) (get_or found (i / 2) None)
        where
          mapped : (b : Bool) (o : Option ℕ) → option_map (signed_of ts t) (cond b o None) ≡ cond b (option_map (signed_of ts t) o) None
          mapped true o = refl
          mapped false o = refl

      nothing_found : (i : ℕ) → i < item_count t → get_or found (i / 2) None ≡ None → option_map (signed_of ts t) (e i).guard ≡ None
      nothing_found i l n = guard_shown i l ∙ ap (λ o. cond (is_pi (parts_of (signed_of ts t i))) (option_map (signed_of ts t) o) None) n ∙ neither (is_pi (parts_of (signed_of ts t i))) None where
        neither : (b : Bool) (o : Option Signed) → cond b o o ≡ o
        neither true o = refl
        neither false o = refl

      -- in Grz: an item of a subformula of the goal, and another
      guard_there : (i : ℕ) → i < item_count t → i / 2 < length found → i / 2 < length own → option_map (signed_of ts t) (e i).guard ≡ guard_in Grz g (signed_of ts t i)
      guard_there i l m k =
          let s : Signed = signed_of ts t i in
          let inside : is_subformula g s.1 ≡ true = ap (is_subformula g) (own_front (i / 2) k) ∙ is_subformula-true g (form_at ts own (i / 2)) (own_subformula (i / 2) k) in
          let own_is : option_map (signed_of ts t) (get_or found (i / 2) None) ≡ own_guard s.1 = has.guards (i / 2) m ∙ ap own_guard (sym (own_front (i / 2) k)) in
          guard_shown i l ∙ ap (λ o. cond (is_pi (parts_of s)) o None) own_is ∙ sym (guard_of-own s) ∙ sym (ap (λ b. cond b (guard_of s) None) inside)

      guard_absent : (i : ℕ) → i < item_count t → length found ≤ i / 2 → length own ≤ i / 2 → option_map (signed_of ts t) (e i).guard ≡ guard_in Grz g (signed_of ts t i)
      guard_absent i l m k =
          let s : Signed = signed_of ts t i in
          nothing_found i l (get_or_past found (i / 2) None m)
          ∙ sym (ap (λ b. cond b (guard_of s) None) (outside (is_subformula g s.1) refl)) where
            outside : (b : Bool) → is_subformula g (form_at ts forms (i / 2)) ≡ b → is_subformula g (form_at ts forms (i / 2)) ≡ false
            outside false q = q
            outside true q =
                let h : i / 2 < length forms = omega arith in
                let bad : i / 2 < length own = own_place (i / 2) h (is_subformula-means g (form_at ts forms (i / 2)) q) in
                absurd (omega arith)

      guard_is : (logic' : Logic) → logic' ≡ logic → (i : ℕ) → i < item_count t → option_map (signed_of ts t) (e i).guard ≡ guard_in logic' g (signed_of ts t i)
      guard_is Grz q i l =
          let n : length found ≡ length own = subst (λ x. FitsLogic x (length own) found) (sym q) fits in
          elim (cases_order (i / 2) (length own)) [
            | inl same ↦ guard_absent i l (omega arith) (omega arith)
            | inr r ↦ elim r [ inl lt ↦ guard_there i l (omega arith) lt | inr gt ↦ guard_absent i l (omega arith) (omega arith) ]
          ]
      guard_is K q i l = nothing_found i l (no_guard (i / 2) found (subst (λ x. FitsLogic x (length own) found) (sym q) fits))
      guard_is KT q i l = nothing_found i l (no_guard (i / 2) found (subst (λ x. FitsLogic x (length own) found) (sym q) fits))
      guard_is S4 q i l = nothing_found i l (no_guard (i / 2) found (subst (λ x. FitsLogic x (length own) found) (sym q) fits))
      guard_is S5 q i l = nothing_found i l (no_guard (i / 2) found (subst (λ x. FitsLogic x (length own) found) (sym q) fits))
      guard_is GL q i l = nothing_found i l (no_guard (i / 2) found (subst (λ x. FitsLogic x (length own) found) (sym q) fits))
      guard_is K4 q i l = nothing_found i l (no_guard (i / 2) found (subst (λ x. FitsLogic x (length own) found) (sym q) fits))
      guard_is KD q i l = nothing_found i l (no_guard (i / 2) found (subst (λ x. FitsLogic x (length own) found) (sym q) fits))

      of_closure : (c : Formula) → Stands ts forms c → IsOfClosure logic g c
      of_closure c h =
          elim ((has.exact c).0 h) [
            | inl o ↦ inl ((own_stands c).0 o)
            | inr q ↦ inr (found_guard logic refl c q.0 q.1 q.2)
          ]

      closure_stands : (c : Formula) → IsOfClosure logic g c → Stands ts forms c
      closure_stands c (inl s) = (has.exact c).1 (inl ((own_stands c).1 s))
      closure_stands c (inr h) = (has.exact c).1 (inr (guard_found logic refl c h))

      pub is_kept : Keeps ts t
      is_kept = record {
        table = is_table;
        live = has.numbering.live;
        distinct = distinct;
        operands = has.numbering.operands;
        exact = λ c. (of_closure c, closure_stands c);
        goal_first = λ i j l m s.
            let k : j < length own = own_place j m s in
            let h : i < length own = omega arith in
            subst (λ f. IsSubformula f g) (sym (own_front i h)) (own_subformula i h);
        parts = λ i l. (is_entry i l).parts;
        guard = λ i l. guard_is logic refl i l;
        absurd = λ i l. (is_entry i l).absurd;
      }

pub built : (old ts : List Formula) (logic : Logic) (goal : FormId) (own keys forms : List FormId) (found seen : List (Option ℕ)) (entries : List Entry) →
    IsLive old goal → AreSubformulas old goal own → AreOperandsBelow old → Grows old ts → length own ≤ SUBFORMULA_LIMIT → keys ≡ own → HasGuards ts keys forms found → FitsLogic logic (length keys) found →
    seen ≡ found → AreEntries ts forms seen entries → length entries ≡ 2 * length forms → AreIdsExact ts → Keeps ts (record { logic = logic; goal = goal; forms = forms; entries = entries })
built old ts logic goal own keys forms found seen entries live is_own below grows few e has fits q each whole ids =
    is_kept old ts logic goal own forms found entries live is_own below grows few
    (subst (λ k. HasGuards ts k forms found) e has) (subst (λ k. FitsLogic logic (length k) found) e fits) (subst (λ k. AreEntries ts forms k entries) q each) whole ids
