-- How the walk goes on from a proof to its first subproof.
use Rattle.std.proofs.Common.{◌≡◌, ℕ, ◌+◌, ◌*◌, ◌<◌, ◌≤◌, List, [], ◌∷◌, ◌++◌, length, Bor, Option, None, Some, refl, sym, ap, subst, ◌∙◌, arith}
use Rattle.std.specs.Bool.{IsTrue}
use Rattle.std.specs.List.{All, slice_get}
use Rattle.std.specs.Option.{IfSome}
use Rattle.std.proofs.lemmas.List.Elements.{All-push, All-weaker}
use Rattle.lw_formula.specs.declared.logic.Logic.{Logic}
use Rattle.lw_formula.specs.declared.parts.Parts.{Parts}
use Rattle.lw_formula.specs.declared.parts.Parts.TheVariants.{Nothing, One, Two, Nu, Pi}
use Rattle.lw_formula.specs.Formula.{Formula}
use Rattle.lw_formula.specs.Signed.{Signed}
use Rattle.lw_formula.specs.Components.{parts_of}
use Rattle.lw_pool.specs.declared.id.FormId.{FormId}
use Rattle.lw_pool.specs.declared.id.SignedId.{SignedId}
use Rattle.lw_pool.specs.Region.{tree_at, IsLive, IsAt, Grows, signed_at, parts_at, AreBothBelow, ArePartsBelow}
use Rattle.lw_pool.proofs.RegionGrowth.{Grows-trans}
use Rattle.lw_proof.specs.declared.rule.Rule.{Rule}
use Rattle.lw_proof.specs.Tree.{Tree, forest, subs_of, rule_of, principal_of, lines, lines_all}
use Rattle.lw_proof.specs.System.{trees}
use Rattle.lw_proof.specs.Derivation.{side, added}
use Rattle.lw_proof.specs.Pooled.{proof_at}
use Rattle.lw_proof.proofs.FirstSubproofs.{each_first, sub_smaller, lines_first, two_members}
use Rattle.lw_sets.specs.IdSets.{side_at}
use Rattle.lw_sets.proofs.GrownPools.{IsLive_grows, signed_grows, parts_grow, proof_grows, AreBothBelow_grows}
use Rattle.lw_sets.proofs.SetMembers.{side_parts}
use Rattle.lw_interp.specs.declared.frame.Frame.{Frame}
use Rattle.lw_interp.specs.declared.frame.Frame.TheVariants.{Only, First, Second, Step}
use Rattle.lw_interp.specs.declared.sides.Place.{Place}
use Rattle.lw_interp.specs.declared.sides.SideIds.{SideIds}
use Rattle.lw_interp.specs.declared.walk.Walk.{Walk}
use Rattle.lw_interp.specs.Interpolant.{has_interpolants}
use Rattle.lw_interp.specs.Maehara.{Sides, put_beside, kept_sides, of_two, of_step, joined, read_off}
use Rattle.lw_interp.specs.Private.SideLists.{sides_at, place_of, is_left, put_at, counts_of, cut_to, AreSidesLive, IsPut}
use Rattle.lw_interp.specs.Private.ReadSteps.{components_of, IsShaped, IsReadable, IsCompanion}
use Rattle.lw_interp.specs.Private.ReadingWalk.{after, after_all, from_proof, IsReady, IsWalkReady, work, work_left, GoesOn, GoesDown, IsPutUnder, IsStepUnder}
use Rattle.lw_interp.proofs.ShapedProofs.{sub_readable, readable_grows}
use Rattle.lw_interp.proofs.PutSides.{sides_grow, AreSidesLive_grows, put_in_place, left_place, put_sides, put_back, put_live}
use Rattle.lw_interp.proofs.ReadPremises.{none_read, one_read, two_read, nu_read, pi_read}

-- a stack with a frame more
pub after_push : (L : Logic) (ts : List Formula) (fs : List Frame) (f : Frame) (x : SideIds × Formula) → after_all L ts (fs ++ f ∷ []) x ≡ after_all L ts fs (after L ts f x)
after_push L ts [] f x = refl
after_push L ts (g ∷ fs) f x = ap (after L ts g) (after_push L ts fs f x)

pub work_push : (fs : List Frame) (f : Frame) → work_left (fs ++ f ∷ []) ≡ work_left fs + work f
work_push [] f = omega arith
work_push (g ∷ fs) f = omega (arith, work_push fs f)

-- a proof's lines, where its first step has two subproofs
lines_two : (P u v : Tree SignedId) → length (subs_of P) ≡ 2 → slice_get (subs_of P) 0 ≡ Some u → slice_get (subs_of P) 1 ≡ Some v → lines P ≡ lines u + lines v + 1
lines_two P u v n e g =
    let all : lines_all (forest (subs_of P)) ≡ lines u + (lines v + 0) = ap (λ us. lines_all (forest us)) (two_members (subs_of P) u v n e g) in
    let h : lines P ≡ lines_all (forest (subs_of P)) + 1 = lines_first P in
    omega arith

below_both : (n : ℕ) (a x : SignedId) (o : Option SignedId) → a.form.0 < n → x.form.0 < n → IfSome o (λ y. y.form ≡ x.form) → AreBothBelow n (a, o)
below_both n a x None l m h = l
below_both n a x (Some y) l m h = (l, subst (λ k. k.0 < n) (sym h) m)

module _ (L : Logic) (now : List Formula) (old new : Walk) (P : Tree SignedId) (sub : Bor (Tree SignedId)) (r : Rule) (x : SignedId) (place : Place) (p : Parts SignedId)
    (ready : IsWalkReady now old) (readable : IsReadable now P) (er : r ≡ rule_of P) (ex : x ≡ principal_of P)
    (here : place ≡ place_of (sides_at now old.sides) (signed_at now x)) (told : parts_at now p ≡ components_of r (parts_of (signed_at now x)))
    (below : ArePartsBelow (length now) p) (first : slice_get (subs_of P) 0 ≡ Some sub.now) where
  live : IsLive now (principal_of P).form
  live = each_first (λ (s : SignedId). IsLive now s.form) P readable.0

  -- what is known at the step holds in a later pool
  module _ (ts : List Formula) (g : Grows now ts) where
    abbrev W : Sides
    W = sides_at ts old.sides

    abbrev s : Signed
    s = signed_at ts (principal_of P)

    shape : IsShaped (proof_at ts P)
    shape = (readable_grows now ts g P readable).1

    same_sign : s ≡ signed_at now x
    same_sign = signed_grows now ts g (principal_of P) live ∙ ap (signed_at now) (sym ex)

    there : place ≡ place_of W s
    there = here ∙ (λ i. place_of (sym (sides_grow now ts g old.sides ready.0) i) (sym same_sign i))

    adds : components_of (rule_of P) (parts_of s) ≡ parts_at ts p
    adds = (λ i. components_of (sym er i) (parts_of (same_sign i))) ∙ sym told ∙ sym (parts_grow now ts g p below)

    beside : (q : SignedId × Option SignedId) (U : Sides) → put_at ts place q U ≡ put_beside W s (side_at ts q) U
    beside q U = ap (λ (at : Place). put_at ts at q U) there ∙ put_in_place W s (side_at ts q) U

    on_left : is_left place ≡ W.left s
    on_left = ap is_left there ∙ left_place W s

    -- the new sides, where components were put beside the principal
    put_new : (q : SignedId × Option SignedId) → IsPut place (side q.0 q.1) old.sides new.sides → sides_at ts new.sides ≡ put_beside W s (side_at ts q) W
    put_new q h = put_sides ts place q old.sides new.sides h ∙ beside q W

    -- from the innermost frame to the step
    whole : (f : Frame) → new.frames.items ≡ old.frames.items ++ f ∷ [] →
        after L ts f (new.sides, read_off L (sides_at ts new.sides) (proof_at ts sub.now)) ≡ (old.sides, read_off L W (proof_at ts P)) →
        from_proof L ts new sub.now ≡ from_proof L ts old P
    whole f pushed e =
        ap (λ fs. after_all L ts fs (new.sides, read_off L (sides_at ts new.sides) (proof_at ts sub.now))) pushed
        ∙ after_push L ts old.frames.items f (new.sides, read_off L (sides_at ts new.sides) (proof_at ts sub.now))
        ∙ ap (after_all L ts old.frames.items) e

  -- the walk has gone on where the frame is right
  goes_on : (f : Frame) → new.frames.items ≡ old.frames.items ++ f ∷ [] → AreSidesLive now new.sides → IsReady now f → work f + 2 * lines sub.now ≤ 2 * lines P →
      ((ts : List Formula) → Grows now ts →
      after L ts f (new.sides, read_off L (sides_at ts new.sides) (proof_at ts sub.now)) ≡ (old.sides, read_off L (sides_at ts old.sides) (proof_at ts P))) →
      GoesOn L now old new P (Some sub)
  goes_on f pushed alive right few e = (
    (alive, subst (All (IsReady now)) (sym pushed) (All-push (IsReady now) old.frames.items f ready.1 right)),
    sub_readable now P 0 sub.now first readable,
    sub_smaller P 0 sub.now first,
    (let n : work_left new.frames.items ≡ work_left old.frames.items + work f = ap work_left pushed ∙ work_push old.frames.items f in omega arith),
    λ ts g. whole ts g f pushed (e ts g),
  )

  one_fewer : 1 + 2 * lines sub.now ≤ 2 * lines P
  one_fewer = let h : lines sub.now < lines P = sub_smaller P 0 sub.now first in omega arith

  pub one_goes_on : (a : SignedId) (b : Option SignedId) → p ≡ One a b → IsPutUnder (Only (counts_of old.sides)) place (a, b) old new → GoesOn L now old new P (Some sub)
  one_goes_on a b is h =
      let low : AreBothBelow (length now) (a, b) = subst (ArePartsBelow (length now)) is below in
      goes_on (Only (counts_of old.sides)) h.1 (put_live now place (a, b) old.sides new.sides h.0 low ready.0) tt one_fewer
      (λ ts g i. (
        put_back place (side a b) old.sides new.sides h.0 i,
        (ap (λ U. read_off L U (proof_at ts sub.now)) (put_new ts g (a, b) h.0)
            ∙ sym (one_read L ts (W ts g) P sub.now a b (shape ts g) (adds ts g ∙ ap (parts_at ts) is) first)) i,
      ))

  pub nu_goes_on : (a : SignedId) → p ≡ Nu a → IsPutUnder (Only (counts_of old.sides)) place (a, None) old new → GoesOn L now old new P (Some sub)
  nu_goes_on a is h =
      let low : AreBothBelow (length now) (a, None) = subst (ArePartsBelow (length now)) is below in
      goes_on (Only (counts_of old.sides)) h.1 (put_live now place (a, None) old.sides new.sides h.0 low ready.0) tt one_fewer
      (λ ts g i. (
        put_back place (side a None) old.sides new.sides h.0 i,
        (ap (λ U. read_off L U (proof_at ts sub.now)) (put_new ts g (a, None) h.0)
            ∙ sym (nu_read L ts (W ts g) P sub.now a (shape ts g) (adds ts g ∙ ap (parts_at ts) is) first)) i,
      ))

  pub two_goes_on : (q o : SignedId × Option SignedId) → p ≡ Two q o → (other : Bor (Tree SignedId)) → length (subs_of P) ≡ 2 → slice_get (subs_of P) 1 ≡ Some other.now →
      IsPutUnder (First (counts_of old.sides) place o other) place q old new → GoesOn L now old new P (Some sub)
  two_goes_on q o is other count second h =
      let low : AreBothBelow (length now) q × AreBothBelow (length now) o = subst (ArePartsBelow (length now)) is below in
      goes_on (First (counts_of old.sides) place o other) h.1 (put_live now place q old.sides new.sides h.0 low.0 ready.0)
      (low.1, sub_readable now P 1 other.now second readable)
      (let n : lines P ≡ lines sub.now + lines other.now + 1 = lines_two P sub.now other.now count first second in omega arith)
      (λ ts g.
      let back : cut_to (counts_of old.sides) new.sides ≡ old.sides = put_back place (side q.0 q.1) old.sides new.sides h.0 in
      let rest : put_at ts place o (sides_at ts (cut_to (counts_of old.sides) new.sides)) ≡ put_beside (W ts g) (s ts g) (side_at ts o) (W ts g) =
      ap (λ (V : SideIds). put_at ts place o (sides_at ts V)) back ∙ beside ts g o (W ts g) in
      λ i. (
        back i,
        ((λ j. of_two (on_left ts g j) (read_off L (put_new ts g q h.0 j) (proof_at ts sub.now)) (read_off L (rest j) (proof_at ts other.now)))
            ∙ sym (two_read L ts (W ts g) P sub.now other.now q o (shape ts g) (adds ts g ∙ ap (parts_at ts) is) first second)) i,
      ))

  pub pi_goes_on : (a : SignedId) → p ≡ Pi a → (o : Option SignedId) → IsTrue (has_interpolants L) → IsCompanion L x o → IfSome o (λ y. y.form ≡ x.form) →
      IsStepUnder L now (Step old.sides place) place (a, o) old new → GoesOn L now old new P (Some sub)
  pi_goes_on a is o known companion same h =
      let low : a.form.0 < length now = subst (ArePartsBelow (length now)) is below in
      let both : AreBothBelow (length now) (a, o) = below_both (length now) a x o low (subst (λ (y : SignedId). IsLive now y.form) (sym ex) live) same in
      goes_on (Step old.sides place) h.4 (put_live now place (a, o) h.0 new.sides h.3 both h.2) ready.0 one_fewer
      (λ ts g.
      let kept : sides_at ts h.0 ≡ kept_sides L (W ts g) = (λ i. record { left = h.1.0 ts g i; right = h.1.1 ts g i }) in
      let more : side_at ts (a, o) ≡ added trees L (s ts g) (signed_at ts a) =
      side_parts ts a o ∙ sym (companion known ts (signed_at ts a)) ∙ ap (λ (y : SignedId). added trees L (signed_at ts y) (signed_at ts a)) ex in
      let stepped : sides_at ts new.sides ≡ put_beside (W ts g) (s ts g) (added trees L (s ts g) (signed_at ts a)) (kept_sides L (W ts g)) =
      put_sides ts place (a, o) h.0 new.sides h.3 ∙ beside ts g (a, o) (sides_at ts h.0)
      ∙ (λ i. put_beside (W ts g) (s ts g) (more i) (kept i)) in
      λ i. (
        old.sides,
        ((λ j. of_step (on_left ts g j) (read_off L (stepped j) (proof_at ts sub.now)))
            ∙ sym (pi_read L ts (W ts g) P sub.now a (shape ts g) (adds ts g ∙ ap (parts_at ts) is) first)) i,
      ))

-- what a frame needs stays there in a pool that grows
ready_grows : (now ts : List Formula) → Grows now ts → (f : Frame) → IsReady now f → IsReady ts f
ready_grows now ts g (Only before) h = tt
ready_grows now ts g (First before place other P) h = (AreBothBelow_grows now ts g other h.0, readable_grows now ts g P.now h.1)
ready_grows now ts g (Second before place first) h = IsLive_grows now ts g first h
ready_grows now ts g (Step before place) h = AreSidesLive_grows now ts g before h

pub frames_grow : (now ts : List Formula) → Grows now ts → (fs : List Frame) → All (IsReady now) fs → All (IsReady ts) fs
frames_grow now ts g fs h = All-weaker (IsReady now) (IsReady ts) (λ f r. ready_grows now ts g f r) fs h

pub walk_grows : (now ts : List Formula) → Grows now ts → (w : Walk) → IsWalkReady now w → IsWalkReady ts w
walk_grows now ts g w h = (AreSidesLive_grows now ts g w.sides h.0, frames_grow now ts g w.frames.items h.1)

-- at a step without premises the walk is down
pub arrives : (L : Logic) (now new : List Formula) (start at same : Walk) (Q P : Tree SignedId) (r : Rule) (x : SignedId) (a : FormId) →
    IsWalkReady now at → IsReadable now P →
    work_left at.frames.items + 2 * lines P ≤ work_left start.frames.items + 2 * lines Q →
    ((ts : List Formula) → Grows now ts → from_proof L ts at P ≡ from_proof L ts start Q) →
    same ≡ at → components_of (rule_of P) (parts_of (signed_at now (principal_of P))) ≡ Nothing → r ≡ rule_of P → x ≡ principal_of P →
    Grows now new → IsAt new (joined r (signed_at now x) (sides_at now same.sides) []) a →
    GoesDown L new start same Q a
arrives L now new start at same Q P r x a ready readable few goes is none er ex g stands = (
  stands.0,
  subst (IsWalkReady new) (sym is) (walk_grows now new g at ready),
  (let n : work_left same.frames.items ≡ work_left at.frames.items = ap (λ (w : Walk). work_left w.frames.items) is in omega arith),
  λ ts h.
      let since : Grows now ts = Grows-trans now new ts g h in
      let tree : tree_at ts a ≡ read_off L (sides_at ts at.sides) (proof_at ts P) =
      h.same a stands.0 ∙ stands.1
      ∙ (λ i. joined (er i) (signed_at now (ex i)) (sides_at now (is i).sides) [])
      ∙ sym (none_read L now (sides_at now at.sides) P readable.1 none)
      ∙ (λ i. read_off L (sym (sides_grow now ts since at.sides ready.0) i) (sym (proof_grows now ts since P readable.0) i))
      in
      (λ i. after_all L ts (is i).frames.items ((is i).sides, tree i)) ∙ goes ts since,
)
