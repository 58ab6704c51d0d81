-- The guards of Grz, put behind the formulas.
use Rattle.std.proofs.Common.{◌≡◌, ℕ, zero, suc, ◌+◌, ◌-◌, ◌*◌, ◌/◌, ◌<◌, ◌≤◌, Bool, true, false, cond, Option, Some, None, List, [], ◌∷◌, ◌++◌, length, get_or, ◌⊎◌, inl, inr, refl, sym, ap, subst, ◌∙◌, arith, length-append}
use Rattle.std.specs.Option.{option_map, ForSome}
use Rattle.std.specs.List.{All, Contains}
use Rattle.std.proofs.lemmas.Bool.{cases_Bool, cases_order, false≢true}
use Rattle.std.proofs.lemmas.Option.{none-some}
use Rattle.std.proofs.lemmas.List.{get_or_append_left, get_or_default, get_or_push}
use Rattle.lw_formula.specs.declared.sign.Sign.{Sign}
use Rattle.lw_formula.specs.declared.sign.Sign.TheVariants.{T, F}
use Rattle.lw_formula.specs.Signed.{Signed}
use Rattle.lw_formula.specs.Formula.{Formula, neg, conj, impl, nec, poss, is_modal, IsOperand, IsSubformula}
use Rattle.lw_formula.specs.Components.{guard_of}
use Rattle.lw_formula.proofs.SubformulaLists.{IsSubformula-refl}
use Rattle.lw_pool.specs.declared.id.FormId.{FormId}
use Rattle.lw_pool.specs.declared.id.SignedId.{SignedId}
use Rattle.lw_pool.specs.Region.{tree_at, signed_at, IsLive, Grows}
use Rattle.lw_closure.specs.Private.NumberedForms.{IsAdded, IsNumbering}
use Rattle.lw_closure.specs.Private.GuardNumbers.{own_guard, body_in, first_in, IsOfOwnGuard, AddsGuard, HasGuards}
use Rattle.lw_closure.specs.Table.{sign_of, form_of, form_at, item_of}
use Rattle.lw_closure.specs.Keeps.{StandsBelow}
use Rattle.lw_closure.proofs.GrownClosures.{live_member, same_form, stands_on, stood}
use Rattle.lw_closure.proofs.MappedComponents.{option_same}
use Rattle.lw_closure.proofs.LongerNumberings.{numbering_on, Stands, member_stands, operand_stands, subformula_stands, Puts, put, join, adds_none, adds_guard}

-- three formulas behind others, of which each has its operands among those before it
module _ (ts : List Formula) (old one two new : List FormId) (first body guard : FormId) (j k at : ℕ) (numbering : IsNumbering ts old)
    (first_live : IsLive ts first) (body_live : IsLive ts body) (guard_live : IsLive ts guard)
    (first_added : IsAdded old one first j) (body_added : IsAdded one two body k) (guard_added : IsAdded two new guard at) where
  -- c is one of the three
  abbrev IsOne : Formula → Type 0
  IsOne c = ((c ≡ tree_at ts first) ⊎ (c ≡ tree_at ts body)) ⊎ (c ≡ tree_at ts guard)

  three_put : ((c : Formula) → IsOperand c (tree_at ts first) → Stands ts old c) →
      ((c : Formula) → IsOperand c (tree_at ts body) → Stands ts old c ⊎ (c ≡ tree_at ts first)) →
      ((c : Formula) → IsOperand c (tree_at ts guard) → c ≡ tree_at ts body) → Puts ts old new 3 IsOne
  three_put of_first of_body of_guard =
      join ts old two new 2 1 (λ c. (c ≡ tree_at ts first) ⊎ (c ≡ tree_at ts body)) (λ c. c ≡ tree_at ts guard)
      (join ts old one two 1 1 (λ c. c ≡ tree_at ts first) (λ c. c ≡ tree_at ts body) puts_first puts_body)
      (put ts two guard puts_body.numbering guard_live (λ c o. (puts_body.exact c).1 (inr (of_guard c o))) new at guard_added)
    where
      puts_first : Puts ts old one 1 (λ c. c ≡ tree_at ts first)
      puts_first = put ts old first numbering first_live of_first one j first_added

      puts_body : Puts ts one two 1 (λ c. c ≡ tree_at ts body)
      puts_body = put ts one body puts_first.numbering body_live (λ c o. (puts_first.exact c).1 (of_body c o)) two k body_added

  -- `A`, `A -> box A` and `box(A -> box A)` behind formulas that have `box A`
  box_puts : (a : Formula) → Stands ts old (nec a) → tree_at ts first ≡ a → tree_at ts body ≡ impl a (nec a) → tree_at ts guard ≡ nec (impl a (nec a)) →
      Puts ts old new 3 IsOne × ((c : Formula) → IsOne c → IsSubformula c (tree_at ts guard)) × ((c : Formula) → IsSubformula c (tree_at ts guard) → Stands ts old c ⊎ IsOne c)
  box_puts a whole is_first is_body is_guard = (
    three_put
        (λ c o. operand_stands ts old numbering a c inner (subst (IsOperand c) is_first o))
        (λ c o. elim (the_operands c o) [ inl e ↦ inr (e ∙ sym is_first) | inr e ↦ inl (subst (Stands ts old) (sym e) whole) ])
        (λ c o. the_body c o ∙ sym is_body),
    λ c h. subst (IsSubformula c) (sym is_guard) (inside c h),
    λ c h. outside c (subst (IsSubformula c) is_guard h),
  )
    where
      inner : Stands ts old a
      inner = operand_stands ts old numbering (nec a) a whole refl

      the_operands : (c : Formula) → IsOperand c (tree_at ts body) → (c ≡ a) ⊎ (c ≡ nec a)
      the_operands c o = subst (IsOperand c) is_body o

      the_body : (c : Formula) → IsOperand c (tree_at ts guard) → c ≡ impl a (nec a)
      the_body c o = subst (IsOperand c) is_guard o

      inside : (c : Formula) → IsOne c → IsSubformula c (nec (impl a (nec a)))
      inside c (inl (inl e)) = inr (inr (inl (subst (λ x. IsSubformula x a) (sym (e ∙ is_first)) (IsSubformula-refl a))))
      inside c (inl (inr e)) = inr (inl (e ∙ is_body))
      inside c (inr e) = inl (e ∙ is_guard)

      outside : (c : Formula) → IsSubformula c (nec (impl a (nec a))) → Stands ts old c ⊎ IsOne c
      outside c (inl e) = inr (inr (e ∙ sym is_guard))
      outside c (inr (inl e)) = inr (inl (inr (e ∙ sym is_body)))
      outside c (inr (inr (inl s))) = inl (subformula_stands ts old numbering a c inner s)
      outside c (inr (inr (inr s))) = inl (subformula_stands ts old numbering (nec a) c whole s)

  -- `~A`, `~A & dia A` and `dia(~A & dia A)` behind formulas that have `dia A`
  dia_puts : (a : Formula) → Stands ts old (poss a) → tree_at ts first ≡ neg a → tree_at ts body ≡ conj (neg a) (poss a) → tree_at ts guard ≡ poss (conj (neg a) (poss a)) →
      Puts ts old new 3 IsOne × ((c : Formula) → IsOne c → IsSubformula c (tree_at ts guard)) × ((c : Formula) → IsSubformula c (tree_at ts guard) → Stands ts old c ⊎ IsOne c)
  dia_puts a whole is_first is_body is_guard = (
    three_put
        (λ c o. subst (Stands ts old) (sym (the_negated c o)) inner)
        (λ c o. elim (the_operands c o) [ inl e ↦ inr (e ∙ sym is_first) | inr e ↦ inl (subst (Stands ts old) (sym e) whole) ])
        (λ c o. the_body c o ∙ sym is_body),
    λ c h. subst (IsSubformula c) (sym is_guard) (inside c h),
    λ c h. outside c (subst (IsSubformula c) is_guard h),
  )
    where
      inner : Stands ts old a
      inner = operand_stands ts old numbering (poss a) a whole refl

      the_negated : (c : Formula) → IsOperand c (tree_at ts first) → c ≡ a
      the_negated c o = subst (IsOperand c) is_first o

      the_operands : (c : Formula) → IsOperand c (tree_at ts body) → (c ≡ neg a) ⊎ (c ≡ poss a)
      the_operands c o = subst (IsOperand c) is_body o

      the_body : (c : Formula) → IsOperand c (tree_at ts guard) → c ≡ conj (neg a) (poss a)
      the_body c o = subst (IsOperand c) is_guard o

      inside : (c : Formula) → IsOne c → IsSubformula c (poss (conj (neg a) (poss a)))
      inside c (inl (inl e)) = inr (inr (inl (inl (e ∙ is_first))))
      inside c (inl (inr e)) = inr (inl (e ∙ is_body))
      inside c (inr e) = inl (e ∙ is_guard)

      outside : (c : Formula) → IsSubformula c (poss (conj (neg a) (poss a))) → Stands ts old c ⊎ IsOne c
      outside c (inl e) = inr (inr (e ∙ sym is_guard))
      outside c (inr (inl e)) = inr (inl (inr (e ∙ sym is_body)))
      outside c (inr (inr (inl (inl e)))) = inr (inl (inl (e ∙ sym is_first)))
      outside c (inr (inr (inl (inr s)))) = inl (subformula_stands ts old numbering a c inner s)
      outside c (inr (inr (inr s))) = inl (subformula_stands ts old numbering (poss a) c whole s)

  module _ (sign : Sign) (i : ℕ) (signed : sign_of i ≡ sign) (half : i / 2 ≡ at)
      (is_body : tree_at ts body ≡ body_in (tree_at ts guard)) (is_first : tree_at ts first ≡ first_in (tree_at ts body)) where
    -- the guard of a formula that stands before
    put_guard : (f : Formula) → Stands ts old f → own_guard f ≡ Some (sign, tree_at ts guard) → AddsGuard ts old new f (Some i)
    put_guard (nec a) whole own =
        let few : 3 ≤ 3 = omega arith in
        let same : (sign, tree_at ts guard) ≡ (T, nec (impl a (nec a))) = cc in
        let is_guard : tree_at ts guard ≡ nec (impl a (nec a)) = ap (λ (s : Signed). s.1) same in
        let the_body : tree_at ts body ≡ impl a (nec a) = is_body ∙ ap body_in is_guard in
        let puts = box_puts a whole (is_first ∙ ap first_in the_body) the_body is_guard in
        adds_guard ts old new 3 IsOne (nec a) (sign, tree_at ts guard) guard at i puts.0 few refl own puts.1 puts.2
        guard_added.below guard_added.there refl signed half
    put_guard (poss a) whole own =
        let few : 3 ≤ 3 = omega arith in
        let same : (sign, tree_at ts guard) ≡ (F, poss (conj (neg a) (poss a))) = cc in
        let is_guard : tree_at ts guard ≡ poss (conj (neg a) (poss a)) = ap (λ (s : Signed). s.1) same in
        let the_body : tree_at ts body ≡ conj (neg a) (poss a) = is_body ∙ ap body_in is_guard in
        let puts = dia_puts a whole (is_first ∙ ap first_in the_body) the_body is_guard in
        adds_guard ts old new 3 IsOne (poss a) (sign, tree_at ts guard) guard at i puts.0 few refl own puts.1 puts.2
        guard_added.below guard_added.there refl signed half
    put_guard _ whole own = absurd (none-some (sign, tree_at ts guard) own)

module _ (old_ts ts : List Formula) (grows : Grows old_ts ts) (old : List FormId) (form : FormId) (item : SignedId)
    (numbering : IsNumbering old_ts old) (there : Contains old form) (is_item : item.form ≡ form)
    (own : guard_of (signed_at old_ts item) ≡ own_guard (tree_at old_ts form)) where
  form_live : IsLive old_ts form
  form_live = live_member old_ts old form numbering.live there

  -- the guard is the same in the pool that has grown
  own_later : own_guard (tree_at old_ts form) ≡ guard_of (signed_at ts item)
  own_later = sym own ∙ ap guard_of (λ i. (item.sign, sym (grows.same item.form (subst (IsLive old_ts) (sym is_item) form_live)) i))

  pub no_guard : (o : Option SignedId) → o ≡ None → option_map (signed_at ts) o ≡ guard_of (signed_at ts item) → AddsGuard ts old old (tree_at old_ts form) None
  no_guard o none told =
      adds_none ts old (tree_at old_ts form) (numbering_on old_ts ts old grows numbering) (own_later ∙ sym told ∙ ap (option_map (signed_at ts)) none)

  -- the guard and what it is made of are put
  pub guard_put : (o : Option SignedId) (guard : SignedId) → o ≡ Some guard → option_map (signed_at ts) o ≡ guard_of (signed_at ts item) → IsLive ts guard.form →
      (body first : FormId) → IsLive ts body → tree_at ts body ≡ body_in (tree_at ts guard.form) → IsLive ts first → tree_at ts first ≡ first_in (tree_at ts body) →
      (one two new : List FormId) (j k at i : ℕ) → IsAdded old one first j → IsAdded one two body k → IsAdded two new guard.form at →
      sign_of i ≡ guard.sign → i / 2 ≡ at → AddsGuard ts old new (tree_at old_ts form) (Some i)
  guard_put o guard is told guard_live body first body_live is_body first_live is_first one two new j k at i first_added body_added guard_added signed half =
      put_guard ts old one two new first body guard.form j k at (numbering_on old_ts ts old grows numbering) first_live body_live guard_live
      first_added body_added guard_added guard.sign i signed half is_body is_first (tree_at old_ts form)
      (subst (Stands ts old) (grows.same form form_live) (member_stands ts old form there))
      (own_later ∙ sym told ∙ ap (option_map (signed_at ts)) is)

-- what holds at each place and of one more element holds at each place of the longer list
pub each_more : {X : Type 0} (P : ℕ → X → Type 0) (xs : List X) (x d : X) → ((j : ℕ) → j < length xs → P j (get_or xs j d)) → P (length xs) x →
    (j : ℕ) → j < length (xs ++ x ∷ []) → P j (get_or (xs ++ x ∷ []) j d)
each_more P xs x d each last j l =
    elim (cases_order j (length xs)) [
      | inl e ↦ (let Q : ℕ → Type 0 = λ k. P k (get_or (xs ++ x ∷ []) k d) in subst Q (sym e) (subst (P (length xs)) (sym (get_or_push xs x d (length xs) refl)) last))
      | inr q ↦ elim q [
        | inl lt ↦ subst (P j) (sym (get_or_append_left xs (x ∷ []) d j lt)) (each j lt)
        | inr gt ↦ absurd (omega (arith, length-append xs (x ∷ [])))
      ]
    ]

modal_operand : (f : Formula) → is_modal f ≡ true → (c : Formula) × IsOperand c f
modal_operand (nec a) e = (a, refl)
modal_operand (poss a) e = (a, refl)
modal_operand _ e = absurd (false≢true e)

-- the first formula has no operand
pub first_not_modal : (ts : List Formula) (forms : List FormId) → IsNumbering ts forms → 0 < length forms → is_modal (form_at ts forms 0) ≡ false
first_not_modal ts forms numbering l =
    elim (cases_Bool (is_modal (form_at ts forms 0))) [
      | inl e ↦ (
          let o = modal_operand (form_at ts forms 0) e in
          let r = numbering.operands 0 o.0 l o.1 in
          let bad : ⊥ = omega (arith, r.1) in absurd bad
          )
      | inr e ↦ e
    ]

few_more : (k own mid new : ℕ) (b : Bool) → (k ≡ 0 → b ≡ false) → mid ≤ own + 3 * (k - 1) → new ≤ mid + cond b 3 0 → new ≤ own + 3 * ((k + 1) - 1)
few_more k own mid new false h l m = omega arith
few_more zero own mid new true h l m = absurd (false≢true (sym (h refl)))
few_more (suc k) own mid new true h l m = omega arith

-- before the first formula is looked at
pub guards_start : (ts : List Formula) (forms : List FormId) → IsNumbering ts forms → HasGuards ts forms forms []
guards_start ts forms numbering = record {
  numbering = numbering;
  longer = omega arith;
  few = omega arith;
  front = λ i l. refl;
  exact = λ c. (λ h. inl h, λ h. elim h [ inl s ↦ s | inr g ↦ (let bad : ⊥ = omega (arith, g.1) in absurd bad) ]);
  guards = λ j l. (let bad : ⊥ = omega arith in absurd bad);
  within = λ j l. (let bad : ⊥ = omega arith in absurd bad);
}

-- one more formula is looked at
module _ (ts next : List Formula) (own forms more_forms : List FormId) (found : List (Option ℕ)) (g : Option ℕ) (has : HasGuards ts own forms found) (small : length found < length own)
    (grows : Grows ts next) (adds : AddsGuard next forms more_forms (form_at ts forms (length found)) g) where
  abbrev k : ℕ
  k = length found

  own_live : All (IsLive ts) own
  own_live i d l =
      subst (IsLive ts) (sym (get_or_default own i d (record { 0 = 0 }) l ∙ sym (has.front i l)))
      (has.numbering.live i (record { 0 = 0 }) (omega (arith, has.longer)))

  same_own : (j : ℕ) → j < length own → form_at next own j ≡ form_at ts own j
  same_own j l = same_form ts next grows own own_live j l

  -- the formula that is looked at
  looked_at : form_at ts forms k ≡ form_at next own k
  looked_at = ap (tree_at ts) (has.front k small) ∙ sym (same_own k small)

  same_item : (i : ℕ) → i < 2 * length forms → signed_at next (item_of more_forms i) ≡ signed_at ts (item_of forms i)
  same_item i l =
      let h : i / 2 < length forms = omega arith in
      λ j. (sign_of i, (ap (tree_at next) (adds.front (i / 2) h) ∙ same_form ts next grows forms has.numbering.live (i / 2) h) j)

  to_new : (c : Formula) → StandsBelow next more_forms (length more_forms) c →
      StandsBelow next own (length own) c ⊎ ((j : ℕ) × (j < length (found ++ g ∷ [])) × IsOfOwnGuard (form_at next own j) c)
  to_new c h =
      elim ((adds.exact c).0 h) [
        | inl s ↦ elim ((has.exact c).0 (stood ts next grows forms has.numbering.live (length forms) (omega arith) c s)) [
          | inl o ↦ inl (stands_on ts next grows own own_live (length own) (omega arith) c o)
          | inr q ↦ inr (q.0, omega (arith, q.1, length-append found (g ∷ [])), subst (λ f. IsOfOwnGuard f c) (sym (same_own q.0 (omega (arith, q.1)))) q.2)
        ]
        | inr q ↦ inr (k, omega (arith, length-append found (g ∷ [])), subst (λ f. IsOfOwnGuard f c) looked_at q)
      ]

  from_guards : (c : Formula) (j : ℕ) → j < length (found ++ g ∷ []) → IsOfOwnGuard (form_at next own j) c → StandsBelow next more_forms (length more_forms) c
  from_guards c j l q =
      elim (cases_order j k) [
        | inl e ↦ (adds.exact c).1 (inr (subst (λ f. IsOfOwnGuard f c) (ap (form_at next own) e ∙ sym looked_at) q))
        | inr o ↦ elim o [
          | inl lt ↦ (adds.exact c).1 (inl (stands_on ts next grows forms has.numbering.live (length forms) (omega arith) c
              ((has.exact c).1 (inr (j, lt, subst (λ f. IsOfOwnGuard f c) (same_own j (omega arith)) q)))))
          | inr gt ↦ (let bad : ⊥ = omega (arith, length-append found (g ∷ [])) in absurd bad)
        ]
      ]

  from_own : (c : Formula) → StandsBelow next own (length own) c → StandsBelow next more_forms (length more_forms) c
  from_own c h =
      (adds.exact c).1 (inl (stands_on ts next grows forms has.numbering.live (length forms) (omega arith) c ((has.exact c).1 (inl (stood ts next grows own own_live (length own) (omega arith) c h)))))

  none_first : k ≡ 0 → is_modal (form_at ts forms k) ≡ false
  none_first e = ap (λ j. is_modal (form_at ts forms j)) e ∙ first_not_modal ts forms has.numbering (omega (arith, has.longer))

  pub guards_more : HasGuards next own more_forms (found ++ g ∷ [])
  guards_more = record {
    numbering = adds.numbering;
    longer = omega (arith, has.longer, adds.longer);
    few =
        let e : length (found ++ g ∷ []) ≡ k + 1 = length-append found (g ∷ []) in
        subst (λ n. length more_forms ≤ length own + 3 * (n - 1)) (sym e)
        (few_more k (length own) (length forms) (length more_forms) (is_modal (form_at ts forms k)) none_first has.few adds.few);
    front = λ i l. adds.front i (omega (arith, has.longer)) ∙ has.front i l;
    exact = λ c. (to_new c, λ h. elim h [ inl o ↦ from_own c o | inr q ↦ from_guards c q.0 q.1 q.2 ]);
    guards =
        each_more (λ j o. option_map (λ i. signed_at next (item_of more_forms i)) o ≡ own_guard (form_at next own j)) found g None
        (λ j l.
        option_same (λ i. signed_at next (item_of more_forms i)) (λ i. signed_at ts (item_of forms i)) (get_or found j None) (λ i e. same_item i (has.within j l i e))
        ∙ has.guards j l ∙ ap own_guard (sym (same_own j (omega arith))))
        (adds.guard ∙ ap own_guard looked_at);
    within =
        each_more (λ j o. ForSome o (λ i. i < 2 * length more_forms)) found g None
        (λ j l i e. let m : i < 2 * length forms = has.within j l i e in omega (arith, adds.longer))
        adds.within;
  }

-- the step of the loop over the formulas
pub guards_step : (ts next : List Formula) (own forms more_forms : List FormId) (found after : List (Option ℕ)) (g : Option ℕ) (form : FormId) (at : ℕ) → HasGuards ts own forms found →
    length found ≡ at → at < length own → form ≡ form_of forms at → Grows ts next → AddsGuard next forms more_forms (tree_at ts form) g → after ≡ found ++ g ∷ [] →
    HasGuards next own more_forms after
guards_step ts next own forms more_forms found after g form at has count small is grows adds e =
    subst (HasGuards next own more_forms) (sym e)
    (guards_more ts next own forms more_forms found g has (omega arith) grows
    (subst (λ f. AddsGuard next forms more_forms f g) (ap (tree_at ts) (is ∙ ap (form_of forms) (sym count))) adds))
