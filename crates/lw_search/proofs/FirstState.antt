-- How a search begins.
use Rattle.std.proofs.Common.{◌≡◌, ℕ, ◌<◌, ◌≤◌, Bool, true, false, eqb, List, [], ◌∷◌, length, inl, inr, refl, sym, ap, subst, ◌∙◌, arith}
use Rattle.std.proofs.lemmas.Bool.{eqb-true, false≢true, or_cases}
use Rattle.lw_formula.specs.declared.logic.Logic.{Logic}
use Rattle.lw_formula.specs.declared.sign.Sign.TheVariants.{T, F}
use Rattle.lw_formula.specs.Components.{parts_of}
use Rattle.lw_formula.specs.Formula.{Formula, nec, poss}
use Rattle.lw_formula.specs.Signed.{Signed, flip}
use Rattle.lw_pool.specs.declared.id.FormId.{FormId}
use Rattle.lw_pool.specs.Region.{signed_at}
use Rattle.lw_proof.specs.Derivation.{has_cut, has_serial, is_nu, is_pi}
use Rattle.lw_proof.specs.System.{Set}
use Rattle.lw_closure.specs.Keeps.{Keeps}
use Rattle.lw_closure.specs.Table.{Table, entry_at, flip_item, item_at, item_count, signed_of}
use Rattle.lw_closure.proofs.ItemFormulas.{item_nu, item_pi, signed_flip}
use Rattle.lw_closure.proofs.ItemNumbers.{flip_below}
use Rattle.lw_sat.specs.SeedPath.{Spot, most_steps}
use Rattle.lw_sat.specs.Saturated.{IsAt}
use Rattle.lw_sat.specs.Sets.{among, IsOfItems}
use Rattle.lw_search.specs.declared.level.Search.{Search}
use Rattle.lw_search.specs.Private.SearchLevels.{Aim, Guides, IsBegun, IsUnderWork, Nested, start}
use Rattle.lw_search.specs.Ranked.{IsFor, IsGoal, IsRanked, Past, Ranking}
use Rattle.lw_search.specs.Step.{askers, is_asker}
use Rattle.lw_search.proofs.FewAskers.{count_some, pi_with, serial_alone}
use Rattle.lw_search.proofs.ItemCounts.{pi_asks}
use Rattle.lw_search.proofs.FragmentGrowth.{sound_start}

-- in the serial logic each ν has its formula's π beside it, on which a label may ask for a step
flipped_pi : (x : Signed) → is_nu (parts_of x) ≡ true → is_pi (parts_of (flip x)) ≡ true
flipped_pi (T, nec a) e = refl
flipped_pi (F, poss a) e = refl
flipped_pi _ e = absurd (false≢true e)

serial_asks : (ts : List Formula) (t : Table) → Keeps ts t → has_serial t.logic ≡ true → (i : ℕ) → i < item_count t → is_nu (entry_at t i).parts ≡ true → 0 < askers t
serial_asks ts t keeps serial i l nu =
    let j = flip_item i in
    let below : j < item_count t = flip_below i (length t.forms) l in
    let pi : is_pi (entry_at t j).parts ≡ true =
    sym (item_pi ts t keeps j below) ∙ ap (λ (x : Signed). is_pi (parts_of x)) (signed_flip ts t i) ∙ flipped_pi (signed_of ts t i) (item_nu ts t keeps i l ∙ nu) in
    let (c, e) = pi_with (entry_at t j).parts pi in
    count_some (is_asker t) (item_count t) j below (pi_asks t j c (serial_alone t.logic serial).2 e)

pub guides_from : (L : Logic) (suffice : Ranking) (bound : List Formula → Table → ℕ) → IsRanked L suffice bound → (ts : List Formula) (t : Table) → IsFor L ts t → Guides t (suffice ts t)
guides_from L suffice bound ranked ts t fits = record {
  table = fits.keeps.table;
  uncut = ap has_cut fits.logic ∙ ranked.uncut;
  some = serial_asks ts t fits.keeps;
  goes_on = λ path n. ranked.goes_on ts t path n fits;
  falls = λ path n X item c w. ranked.falls ts t path n X item c w fits;
}

pub goal_of : (ts : List Formula) (t : Table) (item : ℕ) {form : FormId} → (item < item_count t) × (item_at t item ≡ record { sign = F; form = form }) → form ≡ t.goal → IsGoal ts t (among (item ∷ []))
goal_of ts t item there e = record { item = item; below = there.0; signed = ap (signed_at ts) (there.1 ∙ (λ i. record { sign = F; form = e i })); only = refl }

one_item : (t : Table) (item : ℕ) → item < item_count t → IsOfItems t (among (item ∷ []))
one_item t item below i e = elim (or_cases (eqb item i) false e) [ inl a ↦ subst (λ k. k < item_count t) (eqb-true item i a) below | inr b ↦ absurd (false≢true b) ]

-- the search that begins with the goal's item
pub begun : (t : Table) (rank : List Past → ℕ → Set ℕ → Bool) (bound item : ℕ) (s : Search) → Guides t rank → item < item_count t → rank [] bound (among (item ∷ [])) ≡ true → IsBegun t (among (item ∷ [])) s →
    IsUnderWork t (record { rank = rank; seed = among (item ∷ []); bound = bound }) s
begun t rank bound item s guides below ranks begins =
    let aim : Aim = record { rank = rank; seed = among (item ∷ []); bound = bound } in
    let own : IsOfItems t aim.seed = one_item t item below in
    record {
      stands = record {
        guides = guides;
        place = start aim;
        nested = subst (λ ls. Nested t aim (start aim) ls (start aim)) (sym begins.below) refl;
        is_place = record { items = own; leads = tt; left = omega arith; begins = λ i e. e; sound = sound_start t bound aim.seed };
        fragment = begins.fragment;
      };
      at = subst (λ fs. IsAt t aim.seed (rank [] bound) fs s.level.board) (sym begins.frames) (record {
        wide = begins.wide;
        seed = own;
        leads = sym begins.spot;
        passes = subst (λ (X : Set ℕ). rank [] bound X ≡ true) (sym (ap (λ (x : Spot). x.set) begins.spot)) ranks;
      });
      steps = subst (λ fs. most_steps fs ≤ bound) (sym begins.frames) (omega arith);
      parent = begins.parent;
    }
