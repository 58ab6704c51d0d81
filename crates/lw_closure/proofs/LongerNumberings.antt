-- A formula that is put behind those of a numbering, and a guard that is.
use Rattle.std.proofs.Common.{◌≡◌, ℕ, ◌+◌, ◌/◌, ◌<◌, ◌≤◌, true, Some, None, List, [], ◌∷◌, ◌++◌, length, ◌⊎◌, ◌↔◌, inl, inr, refl, sym, ap, subst, ◌∙◌, arith, length-append}
use Rattle.std.specs.List.{Contains}
use Rattle.std.proofs.lemmas.Bool.{cases_order}
use Rattle.std.proofs.lemmas.List.Elements.{All-push}
use Rattle.std.proofs.lemmas.List.{get_or_append_left, get_or_default, get_or_push}
use Rattle.lw_formula.specs.Formula.{Formula, letter, falsum, verum, neg, conj, disj, impl, equi, nec, poss, is_modal, IsOperand, IsSubformula}
use Rattle.lw_formula.specs.Signed.{Signed}
use Rattle.lw_formula.proofs.ListMembers.{AreDistinct-push}
use Rattle.lw_pool.specs.declared.id.FormId.{FormId}
use Rattle.lw_pool.specs.Region.{tree_at, signed_at, IsLive, Grows}
use Rattle.lw_closure.specs.Private.NumberedForms.{IsAdded, IsNumbering}
use Rattle.lw_closure.specs.Private.GuardNumbers.{own_guard, AddsGuard}
use Rattle.lw_closure.specs.Table.{sign_of, form_of, form_at, item_of}
use Rattle.lw_closure.specs.Keeps.{StandsBelow}
use Rattle.lw_closure.proofs.GrownClosures.{same_form, still_live, stands_on}

-- a numbering stays one while the pool grows
pub numbering_on : (old new : List Formula) (forms : List FormId) → Grows old new → IsNumbering old forms → IsNumbering new forms
numbering_on old new forms grows numbering = record {
  live = still_live old new grows forms numbering.live;
  distinct = numbering.distinct;
  operands = λ i c l o.
      stands_on old new grows forms numbering.live i (omega arith) c (numbering.operands i c l (subst (IsOperand c) (same_form old new grows forms numbering.live i l) o));
}

module _ (ts : List Formula) (forms : List FormId) where
  -- c is one of the formulas
  abbrev pub Stands : Formula → Type 0
  Stands c = StandsBelow ts forms (length forms) c

  pub member_stands : (a : FormId) → Contains forms a → Stands (tree_at ts a)
  member_stands a c = (c.0, c.1, ap (tree_at ts) (get_or_default forms c.0 (record { 0 = 0 }) a c.1 ∙ c.2))

  module _ (numbering : IsNumbering ts forms) where
    pub operand_stands : (f c : Formula) → Stands f → IsOperand c f → Stands c
    operand_stands f c h o = let r = numbering.operands h.0 c h.1 (subst (IsOperand c) (sym h.2) o) in (r.0, omega (arith, r.1, h.1), r.2)

    -- with a formula its subformulas are there
    pub subformula_stands : (f c : Formula) → Stands f → IsSubformula c f → Stands c
    subformula_stands (letter p) c h e = subst Stands (sym e) h
    subformula_stands falsum c h e = subst Stands (sym e) h
    subformula_stands verum c h e = subst Stands (sym e) h
    subformula_stands (neg a) c h (inl e) = subst Stands (sym e) h
    subformula_stands (neg a) c h (inr s) = subformula_stands a c (operand_stands (neg a) a h refl) s
    subformula_stands (conj a b) c h (inl e) = subst Stands (sym e) h
    subformula_stands (conj a b) c h (inr (inl s)) = subformula_stands a c (operand_stands (conj a b) a h (inl refl)) s
    subformula_stands (conj a b) c h (inr (inr s)) = subformula_stands b c (operand_stands (conj a b) b h (inr refl)) s
    subformula_stands (disj a b) c h (inl e) = subst Stands (sym e) h
    subformula_stands (disj a b) c h (inr (inl s)) = subformula_stands a c (operand_stands (disj a b) a h (inl refl)) s
    subformula_stands (disj a b) c h (inr (inr s)) = subformula_stands b c (operand_stands (disj a b) b h (inr refl)) s
    subformula_stands (impl a b) c h (inl e) = subst Stands (sym e) h
    subformula_stands (impl a b) c h (inr (inl s)) = subformula_stands a c (operand_stands (impl a b) a h (inl refl)) s
    subformula_stands (impl a b) c h (inr (inr s)) = subformula_stands b c (operand_stands (impl a b) b h (inr refl)) s
    subformula_stands (equi a b) c h (inl e) = subst Stands (sym e) h
    subformula_stands (equi a b) c h (inr (inl s)) = subformula_stands a c (operand_stands (equi a b) a h (inl refl)) s
    subformula_stands (equi a b) c h (inr (inr s)) = subformula_stands b c (operand_stands (equi a b) b h (inr refl)) s
    subformula_stands (nec a) c h (inl e) = subst Stands (sym e) h
    subformula_stands (nec a) c h (inr s) = subformula_stands a c (operand_stands (nec a) a h refl) s
    subformula_stands (poss a) c h (inl e) = subst Stands (sym e) h
    subformula_stands (poss a) c h (inr s) = subformula_stands a c (operand_stands (poss a) a h refl) s

-- at most n formulas were put behind the old ones: those of which P holds
pub record Puts (ts : List Formula) (old new : List FormId) (n : ℕ) (P : Formula → Type 0) : Type 0 where
  pub numbering : IsNumbering ts new
  pub longer : length old ≤ length new
  pub few : length new ≤ length old + n
  pub front : (i : ℕ) → i < length old → form_of new i ≡ form_of old i
  pub exact : (c : Formula) → Stands ts new c ↔ (Stands ts old c ⊎ P c)

-- what is among the first stays among the first
pub front_stands : (ts : List Formula) (old new : List FormId) → ((i : ℕ) → i < length old → form_of new i ≡ form_of old i) →
    (n : ℕ) → n ≤ length old → (c : Formula) → StandsBelow ts old n c → StandsBelow ts new n c
front_stands ts old new front n l c h = (h.0, h.1, ap (tree_at ts) (front h.0 (omega (arith, h.1))) ∙ h.2)

pub front_stood : (ts : List Formula) (old new : List FormId) → ((i : ℕ) → i < length old → form_of new i ≡ form_of old i) →
    (n : ℕ) → n ≤ length old → (c : Formula) → StandsBelow ts new n c → StandsBelow ts old n c
front_stood ts old new front n l c h = (h.0, h.1, ap (tree_at ts) (sym (front h.0 (omega (arith, h.1)))) ∙ h.2)

module _ (ts : List Formula) (old : List FormId) (form : FormId) (numbering : IsNumbering ts old) (live : IsLive ts form)
    (operands : (c : Formula) → IsOperand c (tree_at ts form) → Stands ts old c) where
  put_there : Contains old form → Puts ts old old 1 (λ c. c ≡ tree_at ts form)
  put_there there = record {
    numbering = numbering;
    longer = omega arith;
    few = omega arith;
    front = λ i l. refl;
    exact = λ c. (λ h. inl h, λ h. elim h [ inl s ↦ s | inr e ↦ subst (Stands ts old) (sym e) (member_stands ts old form there) ]);
  }

  new_front : (i : ℕ) → i < length old → form_of (old ++ form ∷ []) i ≡ form_of old i
  new_front i l = get_or_append_left old (form ∷ []) (record { 0 = 0 }) i l

  new_last : form_of (old ++ form ∷ []) (length old) ≡ form
  new_last = get_or_push old form (record { 0 = 0 }) (length old) refl

  new_length : length (old ++ form ∷ []) ≡ length old + 1
  new_length = length-append old (form ∷ [])

  old_or_last : (i : ℕ) → i < length (old ++ form ∷ []) → (i < length old) ⊎ (i ≡ length old)
  old_or_last i l = elim (cases_order i (length old)) [ inl e ↦ inr e | inr q ↦ elim q [ inl lt ↦ inl lt | inr gt ↦ absurd (omega (arith, new_length)) ] ]

  operands_behind : (i : ℕ) (c : Formula) → i < length (old ++ form ∷ []) → IsOperand c (form_at ts (old ++ form ∷ []) i) → StandsBelow ts (old ++ form ∷ []) i c
  operands_behind i c l o =
      elim (old_or_last i l) [
        | inl lt ↦ front_stands ts old (old ++ form ∷ []) new_front i (omega arith) c (numbering.operands i c lt (subst (λ f. IsOperand c (tree_at ts f)) (new_front i lt) o))
        | inr e ↦ (
            let P : ℕ → Type 0 = λ k. IsOperand c (form_at ts (old ++ form ∷ []) k) → StandsBelow ts (old ++ form ∷ []) k c in
            subst P (sym e) (λ p. front_stands ts old (old ++ form ∷ []) new_front (length old) (omega arith) c (operands c (subst (λ f. IsOperand c (tree_at ts f)) new_last p))) o
            )
      ]

  stands_cases : (c : Formula) → Stands ts (old ++ form ∷ []) c → Stands ts old c ⊎ (c ≡ tree_at ts form)
  stands_cases c h =
      elim (old_or_last h.0 h.1) [
        | inl lt ↦ inl (h.0, lt, ap (tree_at ts) (sym (new_front h.0 lt)) ∙ h.2)
        | inr e ↦ inr (sym h.2 ∙ ap (form_at ts (old ++ form ∷ [])) e ∙ ap (tree_at ts) new_last)
      ]

  stands_either : (c : Formula) → Stands ts old c ⊎ (c ≡ tree_at ts form) → Stands ts (old ++ form ∷ []) c
  stands_either c (inl h) = let r = front_stands ts old (old ++ form ∷ []) new_front (length old) (omega arith) c h in (r.0, omega (arith, r.1, new_length), r.2)
  stands_either c (inr e) = (length old, omega (arith, new_length), ap (tree_at ts) new_last ∙ sym e)

  put_behind : ¬ Contains old form → Puts ts old (old ++ form ∷ []) 1 (λ c. c ≡ tree_at ts form)
  put_behind new = record {
    numbering = record {
      live = All-push (IsLive ts) old form numbering.live live;
      distinct = AreDistinct-push old form numbering.distinct new;
      operands = operands_behind;
    };
    longer = omega (arith, new_length);
    few = omega (arith, new_length);
    front = new_front;
    exact = λ c. (stands_cases c, stands_either c);
  }

  -- a formula whose operands are there
  pub put : (new : List FormId) (at : ℕ) → IsAdded old new form at → Puts ts old new 1 (λ c. c ≡ tree_at ts form)
  put new at added =
      elim added.either [
        | inl p ↦ subst (λ k. Puts ts old k 1 (λ c. c ≡ tree_at ts form)) (sym p.1) (put_there p.0)
        | inr p ↦ subst (λ k. Puts ts old k 1 (λ c. c ≡ tree_at ts form)) (sym p.1) (put_behind p.0)
      ]

-- some, and then others
pub join : (ts : List Formula) (old mid new : List FormId) (m n : ℕ) (P Q : Formula → Type 0) → Puts ts old mid m P → Puts ts mid new n Q → Puts ts old new (m + n) (λ c. P c ⊎ Q c)
join ts old mid new m n P Q p q = record {
  numbering = q.numbering;
  longer = omega (arith, p.longer, q.longer);
  few = omega (arith, p.few, q.few);
  front = λ i l. q.front i (omega (arith, p.longer)) ∙ p.front i l;
  exact = λ c. (
    λ h. elim ((q.exact c).0 h) [
      | inl s ↦ elim ((p.exact c).0 s) [ inl o ↦ inl o | inr x ↦ inr (inl x) ]
      | inr y ↦ inr (inr y)
    ],
    λ h. elim h [
      | inl o ↦ (q.exact c).1 (inl ((p.exact c).1 (inl o)))
      | inr r ↦ elim r [ inl x ↦ (q.exact c).1 (inl ((p.exact c).1 (inr x))) | inr y ↦ (q.exact c).1 (inr y) ]
    ],
  );
}

-- a formula that has no guard
pub adds_none : (ts : List Formula) (forms : List FormId) (f : Formula) → IsNumbering ts forms → own_guard f ≡ None → AddsGuard ts forms forms f None
adds_none ts forms f numbering e = record {
  numbering = numbering;
  longer = omega arith;
  few = omega arith;
  front = λ i l. refl;
  exact = λ c. (λ h. inl h, λ h. elim h [ inl s ↦ s | inr g ↦ cc (e, g.1) ]);
  guard = sym e;
  within = λ i q. cc;
}

-- a guard whose new subformulas were put
pub adds_guard : (ts : List Formula) (old new : List FormId) (n : ℕ) (P : Formula → Type 0) (f : Formula) (g : Signed) (form : FormId) (at i : ℕ) →
    Puts ts old new n P → n ≤ 3 → is_modal f ≡ true → own_guard f ≡ Some g →
    ((c : Formula) → P c → IsSubformula c g.1) → ((c : Formula) → IsSubformula c g.1 → Stands ts old c ⊎ P c) →
    at < length new → form_of new at ≡ form → tree_at ts form ≡ g.1 → sign_of i ≡ g.0 → i / 2 ≡ at → AddsGuard ts old new f (Some i)
adds_guard ts old new n P f g form at i puts few modal own inside outside l there is sign half = record {
  numbering = puts.numbering;
  longer = puts.longer;
  few = rw modal (omega (arith, puts.few));
  front = puts.front;
  exact = λ c. (
    λ h. elim ((puts.exact c).0 h) [ inl o ↦ inl o | inr p ↦ inr (g, own, inside c p) ],
    λ h. elim h [
      | inl o ↦ (puts.exact c).1 (inl o)
      | inr q ↦ (let e : q.0 ≡ g = cc (own, q.1) in (puts.exact c).1 (outside c (subst (λ x. IsSubformula c x.1) e q.2)))
    ],
  );
  guard = sym own-is;
  within = λ j q. let e : i ≡ j = cc in omega arith;
} where
  own-is : own_guard f ≡ Some (signed_at ts (item_of new i))
  own-is = own ∙ sym (λ j. Some (sign j, (ap (form_at ts new) half ∙ ap (tree_at ts) there ∙ is) j))
