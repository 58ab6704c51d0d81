-- How the walk goes up from an interpolant to the next one.
use Rattle.std.proofs.Common.{◌≡◌, ◌+◌, ◌*◌, ◌<◌, ◌≤◌, Bool, List, [], ◌∷◌, ◌++◌, Bor, Option, sym, ap, subst, ◌∙◌, arith}
use Rattle.std.specs.List.{All}
use Rattle.std.proofs.lemmas.List.Elements.{All-push, All-take}
use Rattle.lw_formula.specs.declared.logic.Logic.{Logic}
use Rattle.lw_formula.specs.Formula.{Formula}
use Rattle.lw_pool.specs.declared.id.FormId.{FormId}
use Rattle.lw_pool.specs.declared.id.SignedId.{SignedId}
use Rattle.lw_pool.specs.Region.{tree_at, IsLive, IsAt, Grows}
use Rattle.lw_pool.proofs.RegionGrowth.{Grows-trans}
use Rattle.lw_proof.specs.Tree.{Tree, lines}
use Rattle.lw_proof.specs.Derivation.{side}
use Rattle.lw_proof.specs.Pooled.{proof_at, IsProofLive}
use Rattle.lw_sets.proofs.GrownPools.{proof_grows}
use Rattle.lw_interp.specs.declared.frame.Frame.{Frame}
use Rattle.lw_interp.specs.declared.frame.Frame.TheVariants.{First, Second, Step}
use Rattle.lw_interp.specs.declared.sides.Counts.{Counts}
use Rattle.lw_interp.specs.declared.sides.Place.{Place}
use Rattle.lw_interp.specs.declared.sides.SideIds.{SideIds}
use Rattle.lw_interp.specs.declared.walk.Walk.{Walk}
use Rattle.lw_interp.specs.Maehara.{of_two, of_step, read_off}
use Rattle.lw_interp.specs.Private.SideLists.{sides_at, is_left, put_at, counts_of, cut_to, AreSidesLive}
use Rattle.lw_interp.specs.Private.ReadingWalk.{after, after_all, from_id, IsReady, IsWalkReady, work, work_left, GoesDown, GoesUp, IsPutUnder}
use Rattle.lw_interp.proofs.PutSides.{sides_grow, AreSidesLive_grows, put_sides, put_back, put_live}
use Rattle.lw_interp.proofs.WalkSteps.{after_push, work_push, frames_grow}

pub cut_live : (now : List Formula) (counts : Counts) (V : SideIds) → AreSidesLive now V → AreSidesLive now (cut_to counts V)
cut_live now counts V l =
    (All-take (λ (x : SignedId). IsLive now x.form) counts.left V.left l.0, All-take (λ (x : SignedId). IsLive now x.form) counts.right V.right l.1)

module _ (L : Logic) (now new : List Formula) (old w : Walk) (a b : FormId) (ready : IsWalkReady now old) (live : IsLive now a) (g : Grows now new)
    (kept : w.frames.items ≡ old.frames.items) where
  -- the step's own interpolant is known
  goes_up : (f : Frame) → AreSidesLive now w.sides → IsLive new b → 0 < work f →
      ((ts : List Formula) → Grows new ts → (w.sides, tree_at ts b) ≡ after L ts f (old.sides, tree_at ts a)) → GoesUp L new old w f a b
  goes_up f alive there some e = (
    there,
    (AreSidesLive_grows now new g w.sides alive, subst (All (IsReady new)) (sym kept) (frames_grow now new g old.frames.items ready.1)),
    (let n : work_left w.frames.items ≡ work_left old.frames.items = ap work_left kept in omega arith),
    λ ts h. (λ i. after_all L ts (kept i) (w.sides, tree_at ts b)) ∙ ap (after_all L ts old.frames.items) (e ts h),
  )

  pub second_goes_up : (f : Frame) (before : Counts) (place : Place) (first : FormId) (left : Bool) → f ≡ Second before place first → IsReady now f →
      w.sides ≡ cut_to before old.sides → left ≡ is_left place → IsAt new (of_two left (tree_at now first) (tree_at now a)) b → GoesUp L new old w f a b
  second_goes_up f before place first left is right cut el at =
      let there : IsLive now first = subst (IsReady now) is right in
      subst (λ (e : Frame). GoesUp L new old w e a b) (sym is)
      (goes_up (Second before place first) (subst (AreSidesLive now) (sym cut) (cut_live now before old.sides ready.0)) at.0 (omega arith)
      (λ ts h.
      let later : Grows now ts = Grows-trans now new ts g h in
      λ i. (cut i, (h.same b at.0 ∙ at.1 ∙ (λ j. of_two (el j) (sym (later.same first there) j) (sym (later.same a live) j))) i)))

  pub step_goes_up : (f : Frame) (before : SideIds) (place : Place) (left : Bool) → f ≡ Step before place → IsReady now f →
      w.sides ≡ before → left ≡ is_left place → IsAt new (of_step left (tree_at now a)) b → GoesUp L new old w f a b
  step_goes_up f before place left is right back el at =
      subst (λ (e : Frame). GoesUp L new old w e a b) (sym is)
      (goes_up (Step before place) (subst (AreSidesLive now) (sym back) (subst (IsReady now) is right)) at.0 (omega arith)
      (λ ts h.
      let later : Grows now ts = Grows-trans now new ts g h in
      λ i. (back i, (h.same b at.0 ∙ at.1 ∙ (λ j. of_step (el j) (sym (later.same a live) j))) i)))

-- the walk turns to the other premise of a Two
module _ (now : List Formula) (old mid turned : Walk) (f : Frame) (before : Counts) (place : Place) (other : SignedId × Option SignedId) (P : Bor (Tree SignedId)) (a : FormId)
    (is : f ≡ First before place other P) (ready : IsWalkReady now old) (right : IsReady now f) (live : IsLive now a)
    (cut : mid.sides ≡ cut_to before old.sides) (kept : mid.frames.items ≡ old.frames.items)
    (h : IsPutUnder (Second (counts_of mid.sides) place a) place other mid turned) where
  pub turned_ready : IsWalkReady now turned
  turned_ready =
      let there : IsReady now (First before place other P) = subst (IsReady now) is right in (
        put_live now place other mid.sides turned.sides h.0 there.0 (subst (AreSidesLive now) (sym cut) (cut_live now before old.sides ready.0)),
        subst (All (IsReady now)) (sym h.1) (All-push (IsReady now) mid.frames.items (Second (counts_of mid.sides) place a) (subst (All (IsReady now)) (sym kept) ready.1) live),
      )

  pub turned_goes_up : (L : Logic) (new : List Formula) (down : Walk) (b : FormId) → Grows now new → GoesDown L new turned down P.now b → GoesUp L new old down f a b
  turned_goes_up L new down b g d =
      subst (λ (e : Frame). GoesUp L new old down e a b) (sym is) (
        d.0,
        d.1,
        (let n : work_left turned.frames.items ≡ work_left mid.frames.items + 1 = ap work_left h.1 ∙ work_push mid.frames.items (Second (counts_of mid.sides) place a) in
            let k : work_left mid.frames.items ≡ work_left old.frames.items = ap work_left kept in
            let m : work_left down.frames.items ≤ work_left turned.frames.items + 2 * lines P.now = d.2 in
            omega arith),
        λ ts t.
            let j : Formula = read_off L (sides_at ts turned.sides) (proof_at ts P.now) in
            let back : cut_to (counts_of mid.sides) turned.sides ≡ mid.sides = put_back place (side other.0 other.1) mid.sides turned.sides h.0 in
            d.3 ts t
            ∙ ap (λ fs. after_all L ts fs (turned.sides, j)) h.1
            ∙ after_push L ts mid.frames.items (Second (counts_of mid.sides) place a) (turned.sides, j)
            ∙ (λ i. after_all L ts (kept i) (
              (back ∙ cut) i,
              of_two (is_left place) (tree_at ts a)
                  (read_off L ((put_sides ts place other mid.sides turned.sides h.0 ∙ ap (λ (V : SideIds). put_at ts place other (sides_at ts V)) cut) i) (proof_at ts P.now)),
            )),
      )

-- the innermost frame comes first
pub popped : (L : Logic) (ts : List Formula) (all fs : List Frame) (f : Frame) (x : SideIds × Formula) → all ≡ fs ++ f ∷ [] →
    after_all L ts all x ≡ after_all L ts fs (after L ts f x)
popped L ts all fs f x e = ap (λ gs. after_all L ts gs x) e ∙ after_push L ts fs f x

pub work_popped : (all fs : List Frame) (f : Frame) → all ≡ fs ++ f ∷ [] → work_left all ≡ work_left fs + work f
work_popped all fs f e = ap work_left e ∙ work_push fs f

-- with no frame left the walk has the interpolant of the whole proof
pub whole_read : (L : Logic) (old now : List Formula) (w : Walk) (V : SideIds) (P : Tree SignedId) (a : FormId) → Grows old now → AreSidesLive old V → IsProofLive old P →
    w.frames.items ≡ [] → from_id L now w a ≡ (V, read_off L (sides_at now V) (proof_at now P)) → tree_at now a ≡ read_off L (sides_at old V) (proof_at old P)
whole_read L old now w V P a g l p none e =
    ap (λ (fs : List Frame). (after_all L now fs (w.sides, tree_at now a)).1) (sym none)
    ∙ ap (λ (x : SideIds × Formula). x.1) e
    ∙ (λ i. read_off L (sides_grow old now g V l i) (proof_grows old now g P p i))
