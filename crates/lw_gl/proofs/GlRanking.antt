-- The ranking by the ν that a label lacks is what a search owes, in GL.
use Rattle.std.proofs.Common.{◌≡◌, ℕ, ◌-◌, ◌<◌, ◌≤◌, true, false, not, ◌&&◌, nat_eq, nat_le, List, [], ◌∷◌, length, refl, sym, ap, subst, ◌∙◌, arith}
use Rattle.std.proofs.lemmas.Bool.{or_left, or_right, and_parts, and_from, false_from_ne_true, leb-true, le-leb, eq-eqb}
use Rattle.lw_formula.specs.declared.logic.Logic.TheVariants.{GL}
use Rattle.lw_formula.specs.declared.parts.Parts.TheVariants.{Pi}
use Rattle.lw_formula.specs.declared.sign.Sign.TheVariants.{T, F}
use Rattle.lw_formula.specs.Formula.{Formula, nec, poss}
use Rattle.lw_formula.specs.Signed.{Signed, flip}
use Rattle.lw_formula.specs.Components.{parts_of}
use Rattle.lw_proof.specs.System.{Set}
use Rattle.lw_proof.specs.Derivation.{added, has_serial, is_nu, kept, plus}
use Rattle.lw_closure.specs.Mapping.{map_parts}
use Rattle.lw_closure.specs.Table.{Table, entry_at, flip_item, item_count, signed_of}
use Rattle.lw_closure.specs.Items.{items}
use Rattle.lw_closure.specs.Keeps.{has_guards}
use Rattle.lw_closure.proofs.ItemFormulas.{item_nu, own_item, signed_flip}
use Rattle.lw_closure.proofs.ItemNumbers.{flip_below}
use Rattle.lw_sat.specs.Moves.{Survives}
use Rattle.lw_sat.specs.Sets.{among, adding}
use Rattle.lw_search.specs.Ranked.{IsFor, IsRanked}
use Rattle.lw_search.specs.Step.{seed}
use Rattle.lw_search.proofs.ItemCounts.{few_nus, pi_asks}
use Rattle.lw_search.proofs.StepSeeds.{steps_pi}
use Rattle.lw_search.specs.Private.LabelLack.{goal_modals, lacks_nu, nus_lacked}
use Rattle.lw_search.proofs.StricterTests.{nus_lacked-less, nus_lacked-within}
use Rattle.lw_gl.specs.Private.LackedNus.{by_lacking}

-- a π under the other sign is a ν
flip_nu : (x c : Signed) → parts_of x ≡ Pi c → is_nu (parts_of (flip x)) ≡ true
flip_nu (F, nec a) c e = refl
flip_nu (T, poss a) c e = refl
flip_nu _ c e = cc

module _ (ts : List Formula) (t : Table) (made : IsFor GL ts t) where
  begins : (X : Set ℕ) → nus_lacked t X ≤ goal_modals ts t
  begins X =
      few_nus ts t made.keeps (lacks_nu t X)
      (λ i l e. ((and_parts (is_nu (entry_at t i).parts) (not (X i)) e).0, own_item ts t made.keeps (ap has_guards made.logic) i l))

  goes_on : (n : ℕ) → Survives t (λ X. nat_le (nus_lacked t X) n)
  goes_on n X i cs l there side new e =
      let few : nus_lacked t X ≤ n = leb-true (nus_lacked t X) n e in
      let fewer : nus_lacked t (adding cs X) ≤ nus_lacked t X = nus_lacked-within t X (adding cs X) (λ j nu old. or_right (among cs j) (X j) old) in
      le-leb (nus_lacked t (adding cs X)) n (omega arith)

  module _ (X : Set ℕ) (item c : ℕ) (below : item < item_count t) (pi : (entry_at t item).parts ≡ Pi c) where
    other_nu : is_nu (entry_at t (flip_item item)).parts ≡ true
    other_nu =
        let other_below : flip_item item < item_count t = flip_below item (length t.forms) below in
        let of_pi : parts_of (signed_of ts t item) ≡ Pi (signed_of ts t c) = sym (made.keeps.parts item below) ∙ ap (map_parts (signed_of ts t)) pi in
        sym (item_nu ts t made.keeps (flip_item item) other_below) ∙ ap (λ x. is_nu (parts_of x)) (signed_flip ts t item) ∙ flip_nu (signed_of ts t item) (signed_of ts t c) of_pi

    in_seed : (j : ℕ) → plus (items t) (added (items t) GL item c) (kept (items t) GL X) j ≡ true → seed t X item c j ≡ true
    in_seed j e = subst (λ L. plus (items t) (added (items t) L item c) (kept (items t) L X) j ≡ true) (sym made.logic) e

    seed_keeps : (j : ℕ) → is_nu (entry_at t j).parts ≡ true → X j ≡ true → seed t X item c j ≡ true
    seed_keeps j nu there =
        in_seed j (or_right (among (c ∷ flip_item item ∷ []) j) (kept (items t) GL X j)
        (or_left (is_nu (entry_at t j).parts && X j) ((items t).under X j) (and_from (is_nu (entry_at t j).parts) (X j) nu there)))

    seed_other : seed t X item c (flip_item item) ≡ true
    seed_other =
        in_seed (flip_item item) (or_left (among (c ∷ flip_item item ∷ []) (flip_item item)) (kept (items t) GL X (flip_item item))
        (or_right (nat_eq c (flip_item item)) (among (flip_item item ∷ []) (flip_item item))
        (or_left (nat_eq (flip_item item) (flip_item item)) false (eq-eqb (flip_item item) (flip_item item) refl))))

    fewer : X (flip_item item) ≡ false → nus_lacked t (seed t X item c) < nus_lacked t X
    fewer out = nus_lacked-less t X (seed t X item c) seed_keeps (flip_item item) (flip_below item (length t.forms) below) other_nu out seed_other

pub ranked : IsRanked GL by_lacking goal_modals
ranked = record {
  uncut = refl;
  begins = λ ts t X made goal. le-leb (nus_lacked t X) (goal_modals ts t) (begins ts t made X);
  few = λ ts t made. omega arith;
  goes_on = λ ts t path n made. goes_on ts t made n;
  falls = λ ts t path n X item c w made e asks.
      let below = asks.items item asks.there in
      let few : nus_lacked t X ≤ n = leb-true (nus_lacked t X) n e in
      let out = false_from_ne_true (X (flip_item item)) (asks.unclosed.consistent item asks.there) in
      let pi = steps_pi t item c (ap has_serial made.logic) asks.steps in
      let less : nus_lacked t (seed t X item c) < nus_lacked t X = fewer ts t made X item c below pi out in (
        omega arith,
        pi_asks t item c (ap has_guards made.logic),
        le-leb (nus_lacked t (seed t X item c)) (n - 1) (omega arith),
      );
}
