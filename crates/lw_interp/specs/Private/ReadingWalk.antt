-- The walk over a proof, whose stack has what is left to be done at the steps above. What is said of formulas holds in each later pool too.
use Rattle.std.specs.Prelude.{◌≡◌, ℕ, ◌+◌, ◌*◌, ◌<◌, ◌≤◌, List, [], ◌∷◌, ◌++◌, All, length, Option, Some, None, ⊤}
use Rattle.std.proofs.Common.{Bor}
use Rattle.lw_formula.specs.declared.logic.Logic.{Logic}
use Rattle.lw_formula.specs.declared.parts.Parts.TheVariants.{Nothing}
use Rattle.lw_formula.specs.Formula.{Formula}
use Rattle.lw_formula.specs.Components.{parts_of}
use Rattle.lw_pool.specs.declared.id.FormId.{FormId}
use Rattle.lw_pool.specs.declared.id.SignedId.{SignedId}
use Rattle.lw_pool.specs.Region.{tree_at, signed_at, IsLive, Grows, AreBothBelow}
use Rattle.lw_proof.specs.Tree.{Tree, rule_of, principal_of, lines}
use Rattle.lw_proof.specs.Derivation.{side}
use Rattle.lw_proof.specs.Pooled.{proof_at}
use Rattle.lw_interp.specs.declared.frame.Frame.{Frame}
use Rattle.lw_interp.specs.declared.frame.Frame.TheVariants.{Only, First, Second, Step}
use Rattle.lw_interp.specs.declared.sides.Place.{Place}
use Rattle.lw_interp.specs.declared.sides.SideIds.{SideIds}
use Rattle.lw_interp.specs.declared.walk.Walk.{Walk}
use Rattle.lw_interp.specs.Maehara.{of_two, of_step, read_off}
use Rattle.lw_interp.specs.Private.SideLists.{sides_at, is_left, put_at, cut_to, AreSidesLive, AreSidesKept, IsPut}
use Rattle.lw_interp.specs.Private.ReadSteps.{components_of, IsReadable}

-- the sides before a step and its interpolant, from the sides of its premise and that one's interpolant
abbrev pub after : Logic → List Formula → Frame → SideIds × Formula → SideIds × Formula
after L ts (Only before) x = (cut_to before x.0, x.1)
after L ts (First before place other P) x =
    (cut_to before x.0, of_two (is_left place) x.1 (read_off L (put_at ts place other (sides_at ts (cut_to before x.0))) (proof_at ts P.now)))
after L ts (Second before place first) x = (cut_to before x.0, of_two (is_left place) (tree_at ts first) x.1)
after L ts (Step before place) x = (before, of_step (is_left place) x.1)

-- the same after all steps of a stack, whose last is the innermost
abbrev pub after_all : Logic → List Formula → List Frame → SideIds × Formula → SideIds × Formula
after_all L ts [] x = x
after_all L ts (f ∷ fs) x = after L ts f (after_all L ts fs x)

-- what the walk comes to where it is at this proof
abbrev pub from_proof : Logic → List Formula → Walk → Tree SignedId → SideIds × Formula
from_proof L ts w P = after_all L ts w.frames.items (w.sides, read_off L (sides_at ts w.sides) (proof_at ts P))

-- what it comes to where this is the interpolant of the innermost premise
abbrev pub from_id : Logic → List Formula → Walk → FormId → SideIds × Formula
from_id L ts w a = after_all L ts w.frames.items (w.sides, tree_at ts a)

-- the pool has what the frame needs
abbrev pub IsReady : List Formula → Frame → Type 0
IsReady ts (Only before) = ⊤
IsReady ts (First before place other P) = AreBothBelow (length ts) other × IsReadable ts P.now
IsReady ts (Second before place first) = IsLive ts first
IsReady ts (Step before place) = AreSidesLive ts before

-- the pool has what the walk needs
abbrev pub IsWalkReady : List Formula → Walk → Type 0
IsWalkReady ts w = AreSidesLive ts w.sides × All (IsReady ts) w.frames.items

-- how much is left to be done
abbrev pub work : Frame → ℕ
work (Only before) = 1
work (First before place other P) = 2 * lines P.now + 2
work (Second before place first) = 1
work (Step before place) = 1

abbrev pub work_left : List Frame → ℕ
work_left [] = 0
work_left (f ∷ fs) = work f + work_left fs

-- the walk has gone on from the proof to its first subproof, or stays at a proof that closes its set
abbrev pub GoesOn : Logic → List Formula → Walk → Walk → Tree SignedId → Option (Bor (Tree SignedId)) → Type 0
GoesOn L now old new P None = (new ≡ old) × (components_of (rule_of P) (parts_of (signed_at now (principal_of P))) ≡ Nothing)
GoesOn L now old new P (Some sub) =
    IsWalkReady now new
    × IsReadable now sub.now
    × (lines sub.now < lines P)
    × (work_left new.frames.items + 2 * lines sub.now ≤ work_left old.frames.items + 2 * lines P)
    × ((ts : List Formula) → Grows now ts → from_proof L ts new sub.now ≡ from_proof L ts old P)

-- the walk has a frame more, and the components at the place
abbrev pub IsPutUnder : Frame → Place → SignedId × Option SignedId → Walk → Walk → Type 0
IsPutUnder f place p old new = IsPut place (side p.0 p.1) old.sides new.sides × (new.frames.items ≡ old.frames.items ++ f ∷ [])

-- the walk has a frame more, and of the sides what a step keeps, with the components at the place
abbrev pub IsStepUnder : Logic → List Formula → Frame → Place → SignedId × Option SignedId → Walk → Walk → Type 0
IsStepUnder L now f place p old new =
    (mid : SideIds) × AreSidesKept L now old.sides mid × AreSidesLive now mid × IsPut place (side p.0 p.1) mid new.sides
    × (new.frames.items ≡ old.frames.items ++ f ∷ [])

-- the walk has gone on from the frame, with the interpolant a of its premise, to the interpolant b
abbrev pub GoesUp : Logic → List Formula → Walk → Walk → Frame → FormId → FormId → Type 0
GoesUp L now old new f a b =
    IsLive now b
    × IsWalkReady now new
    × (work_left new.frames.items < work_left old.frames.items + work f)
    × ((ts : List Formula) → Grows now ts → from_id L ts new b ≡ after_all L ts old.frames.items (after L ts f (old.sides, tree_at ts a)))

-- the walk has gone down from the proof to a step without premises, whose interpolant is a
abbrev pub GoesDown : Logic → List Formula → Walk → Walk → Tree SignedId → FormId → Type 0
GoesDown L now old new P a =
    IsLive now a
    × IsWalkReady now new
    × (work_left new.frames.items ≤ work_left old.frames.items + 2 * lines P)
    × ((ts : List Formula) → Grows now ts → from_id L ts new a ≡ from_proof L ts old P)
