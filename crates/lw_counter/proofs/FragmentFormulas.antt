-- A fragment that is open by a closure's table is open by the formulas of a pool that has kept the closure's.
use Rattle.std.proofs.Common.{◌≡◌, ℕ, ◌<◌, true, nat_eq, List, length, Option, Some, None, inl, inr, refl, sym, ap, subst, ◌∙◌}
use Rattle.std.specs.Bool.{IsTrue}
use Rattle.std.specs.List.{Contains}
use Rattle.std.proofs.lemmas.Bool.Decides.{Decides-eqb}
use Rattle.std.proofs.lemmas.List.Elements.{All-contains}
use Rattle.lw_formula.specs.declared.logic.Logic.{Logic}
use Rattle.lw_formula.specs.declared.parts.Parts.{Parts}
use Rattle.lw_formula.specs.declared.parts.Parts.TheVariants.{Nothing, One, Two, Nu, Pi}
use Rattle.lw_formula.specs.Formula.{Formula}
use Rattle.lw_formula.specs.Signed.{Signed, SignedSet, flip}
use Rattle.lw_formula.specs.Components.{parts_of, is_absurd}
use Rattle.lw_formula.proofs.ListTests.{list_any-Contains, list_any-Decides}
use Rattle.lw_proof.specs.System.{Set, trees, same_signed}
use Rattle.lw_proof.specs.Derivation.{is_modal_part, is_nu, kept}
use Rattle.lw_proof.proofs.SignedMeaning.{same_signed-Decides}
use Rattle.lw_closure.specs.Mapping.{OfBoth, map_both, map_parts}
use Rattle.lw_closure.specs.Table.{Table, item_count, entry_at, flip_item, signed_of}
use Rattle.lw_closure.specs.Items.{items}
use Rattle.lw_closure.specs.Keeps.{Keeps}
use Rattle.lw_closure.specs.Unclosed.{IsServed, IsUnclosed}
use Rattle.lw_closure.proofs.ItemFormulas.{signed_flip, same_item, item_modal, item_nu}
use Rattle.lw_closure.proofs.MappedComponents.{pi_before}
use Rattle.lw_closure.proofs.ItemNumbers.{flip_below}
use Rattle.lw_closure.proofs.PremiseOrigins.{kept_from}
use Rattle.lw_counter.specs.Fragment.{Fragment, world_at, items_of, formulas_of, HasItemsOf}
use Rattle.lw_counter.specs.Open.{IsOpen}
use Rattle.lw_counter.specs.Laws.{OpenItemsAreOpenFormulas, OpenItemsMakeCountermodels}
use Rattle.lw_counter.proofs.Countermodels.{open_models}

both_lifted : {I J : Type 0} (f : I → J) (X : Set I) (Y : Set J) → ((i : I) → X i ≡ true → Y (f i) ≡ true) → (p : I × Option I) → OfBoth (λ c. IsTrue (X c)) p → OfBoth (λ c. IsTrue (Y c)) (map_both f p)
both_lifted f X Y h (a, None) x = h a x
both_lifted f X Y h (a, Some b) x = (h a x.0, h b x.1)

-- what One, Two and Refl could add is there after a map as before
served_lifted : {I J : Type 0} (f : I → J) (X : Set I) (Y : Set J) → ((i : I) → X i ≡ true → Y (f i) ≡ true) → (L : Logic) (p : Parts I) → IsServed L X p → IsServed L Y (map_parts f p)
served_lifted f X Y h L Nothing x = tt
served_lifted f X Y h L (One a None) x = h a x
served_lifted f X Y h L (One a (Some b)) x = (h a x.0, h b x.1)
served_lifted f X Y h L (Two p q) x = elim x [ inl l ↦ inl (both_lifted f X Y h p l) | inr r ↦ inr (both_lifted f X Y h q r) ]
served_lifted f X Y h L (Nu c) x = λ r. h c (x r)
served_lifted f X Y h L (Pi c) x = tt

module _ (ts : List Formula) (t : Table) (keeps : Keeps ts t) (f : Fragment) (within : HasItemsOf t f) where
  abbrev s : ℕ → Signed
  s = signed_of ts t

  abbrev n : ℕ
  n = item_count t

  abbrev parts : ℕ → Parts ℕ
  parts i = (entry_at t i).parts

  abbrev X : ℕ → Set ℕ
  X = items_of f

  abbrev Y : ℕ → SignedSet
  Y = formulas_of ts t f

  -- an item of a label, and its formula
  is_item : (w i : ℕ) → X w i ≡ true → Contains ((world_at f w).label) i
  is_item w i e = (list_any-Contains (λ j. nat_eq j i) i (λ j. Decides-eqb j i) ((world_at f w).label)).0 e

  below : (w i : ℕ) → X w i ≡ true → i < n
  below w i e = All-contains (λ j. j < n) ((world_at f w).label) i (within w) (is_item w i e)

  up : (w i : ℕ) → X w i ≡ true → Y w (s i) ≡ true
  up w i e = (list_any-Decides (λ j. same_signed (s j) (s i)) (λ j. s j ≡ s i) (λ j. same_signed-Decides (s j) (s i)) ((world_at f w).label)).1 (i, is_item w i e, refl)

  down : (w : ℕ) (x : Signed) → Y w x ≡ true → (i : ℕ) × (X w i ≡ true) × (s i ≡ x)
  down w x e =
      let found = (list_any-Decides (λ j. same_signed (s j) x) (λ j. s j ≡ x) (λ j. same_signed-Decides (s j) x) ((world_at f w).label)).0 e in
      (found.0, (list_any-Contains (λ j. nat_eq j found.0) found.0 (λ j. Decides-eqb j found.0) ((world_at f w).label)).1 found.1, found.2)

  -- what a step keeps of the formulas is what it keeps of the items
  kept_down : (w : ℕ) (x : Signed) → kept trees t.logic (Y w) x ≡ true → (i : ℕ) × (kept (items t) t.logic (X w) i ≡ true) × (s i ≡ x)
  kept_down w = kept_from ts t keeps t.logic (X w) (Y w) (λ i e. (below w i e, up w i e)) (down w)

  unclosed_up : (w : ℕ) → IsUnclosed (items t) t.logic (X w) → IsUnclosed trees t.logic (Y w)
  unclosed_up w u = record {
    consistent = λ x h k.
        let i = down w x h in
        let j = down w (flip x) k in
        let same : j.0 ≡ flip_item i.0 = same_item ts t keeps j.0 (flip_item i.0) (below w j.0 j.1) (flip_below i.0 (length t.forms) (below w i.0 i.1)) (j.2 ∙ ap flip (sym i.2) ∙ sym (signed_flip ts t i.0)) in
        u.consistent i.0 i.1 (subst (λ k. X w k ≡ true) same j.1);
    possible = λ x h e.
        let i = down w x h in
        u.possible i.0 i.1 (keeps.absurd i.0 (below w i.0 i.1) ∙ ap is_absurd i.2 ∙ e);
    served = λ x h.
        let i = down w x h in
        subst (IsServed t.logic (Y w)) (keeps.parts i.0 (below w i.0 i.1) ∙ ap parts_of i.2) (served_lifted s (X w) (Y w) (up w) t.logic (parts i.0) (u.served i.0 i.1));
  }

  lifted_open : IsOpen (items t) t.logic f (items_of f) → IsOpen trees t.logic f (formulas_of ts t f)
  lifted_open o = record {
    some = o.some;
    formed = o.formed;
    unclosed = λ w l. unclosed_up w (o.unclosed w l);
    flows = λ w v e x h. (let i = kept_down w x h in subst (λ y. Y v y ≡ true) i.2 (up v i.0 (o.flows w v e i.0 i.1)));
    served = λ w l x c h e.
        let i = down w x h in
        let p = pi_before s (parts i.0) c (keeps.parts i.0 (below w i.0 i.1) ∙ ap parts_of i.2 ∙ e) in
        elim (o.served w l i.0 p.0 i.1 p.1) [
          | inl here ↦ inl (here.0, subst (λ y. Y w y ≡ true) p.2 (up w p.0 here.1))
          | inr there ↦ inr (there.0, there.1, subst (λ y. Y there.0 y ≡ true) p.2 (up there.0 p.0 there.2))
        ];
    round = λ r. record {
      near = (o.round r).near;
      decided = λ w l x m h.
          let i = down w x h in
          elim ((o.round r).decided w l i.0 (sym (item_modal ts t keeps i.0 (below w i.0 i.1)) ∙ ap (λ y. is_modal_part (parts_of y)) i.2 ∙ m) i.1) [
            | inl there ↦ inl (subst (λ y. Y 0 y ≡ true) i.2 (up 0 i.0 there))
            | inr other ↦ inr (subst (λ y. Y 0 y ≡ true) (signed_flip ts t i.0 ∙ ap flip i.2) (up 0 (flip_item i.0) other))
          ];
    };
    serial = λ d w l x m h.
        let i = down w x h in
        o.serial d w l i.0 (sym (item_nu ts t keeps i.0 (below w i.0 i.1)) ∙ ap (λ y. is_nu (parts_of y)) i.2 ∙ m) i.1;
  }

pub open_lifted : OpenItemsAreOpenFormulas
open_lifted ts t keeps f within o = lifted_open ts t keeps f within o

pub open_counters : OpenItemsMakeCountermodels
open_counters ts t keeps f within o m k =
    let made = open_models t.logic f (formulas_of ts t f) m (open_lifted ts t keeps f within o) k in
    (made.0, λ w i l there. made.1 w l (signed_of ts t i) (up ts t keeps f within w i ((list_any-Contains (λ j. nat_eq j i) i (λ j. Decides-eqb j i) ((world_at f w).label)).1 there)))
