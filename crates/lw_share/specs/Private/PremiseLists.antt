-- Sets of signed formulas as lists of ids, also in each pool that has grown from the one at hand.
use Rattle.std.specs.Prelude.{◌≡◌, ◌↔◌, Bool, IsTrue, All, List, [], ◌∷◌, map, Option}
use Rattle.lw_formula.specs.declared.logic.Logic.{Logic}
use Rattle.lw_formula.specs.Formula.{Formula}
use Rattle.lw_formula.specs.Signed.{SignedSet}
use Rattle.lw_formula.specs.Components.{parts_of}
use Rattle.lw_pool.specs.declared.id.SignedId.{SignedId}
use Rattle.lw_pool.specs.Region.{Grows, signed_at, is_marked}
use Rattle.lw_proof.specs.declared.rule.Rule.{Rule}
use Rattle.lw_proof.specs.System.{trees}
use Rattle.lw_proof.specs.Derivation.{premises, Applies, goal_cuts}
use Rattle.lw_sets.specs.IdSets.{set_of, with_side, AreLive}
use Rattle.lw_share.specs.Lines.{Line}
use Rattle.lw_share.specs.Pooled.{line_at, table_at}
use Rattle.lw_share.specs.SharedProofs.{Holds}

-- the lists stand for one set, in each pool
abbrev pub HaveOneSet : List SignedId → List SignedId → Type 0
HaveOneSet xs ys = (ts : List Formula) → set_of ts ys ≡ set_of ts xs

-- each pool that has the ids of the first list has those of the second
abbrev pub AreAsLive : List SignedId → List SignedId → Type 0
AreAsLive xs ys = (ts : List Formula) → AreLive ts xs → AreLive ts ys

-- the lists stand for the set with the components of the one side, and with those of the other
abbrev pub AreBoth : List SignedId → SignedId × Option SignedId → SignedId × Option SignedId → List (List SignedId) → Type 0
AreBoth xs one other lists = (ts : List Formula) → map (set_of ts) lists ≡ with_side xs one ts ∷ with_side xs other ts ∷ []

-- the lists stand for the premises of the rule on x where the set of the ids is to be closed
abbrev pub ArePremises : Logic → List Formula → Rule → SignedId → List SignedId → List (List SignedId) → Type 0
ArePremises L now r x xs lists =
    (ts : List Formula) → Grows now ts →
    map (set_of ts) lists ≡ premises trees L r (signed_at ts x) (parts_of (signed_at ts x)) (set_of ts xs)

-- the pool has the ids of each list
abbrev pub AreAllLive : List Formula → List (List SignedId) → Type 0
AreAllLive ts lists = All (AreLive ts) lists

-- whether the rule may be used is told, for all that may be cut
abbrev pub TellsApplies : Logic → List Formula → List Bool → List SignedId → Rule → SignedId → Bool → Type 0
TellsApplies L ts marks xs r x told =
    (cuts : SignedSet) → is_marked marks x.form.0 ≡ cuts (signed_at ts x) →
    IsTrue told ↔ Applies trees cuts L (set_of ts xs) r (signed_at ts x)

-- whether the line holds is told, for each goal whose subformulas are marked
abbrev pub TellsHolds : Logic → List Formula → List Bool → List (Line SignedId) → Line SignedId → Bool → Type 0
TellsHolds L ts marks table line told =
    (goal : Formula) → is_marked marks line.principal.form.0 ≡ goal_cuts goal (signed_at ts line.principal) →
    IsTrue told ↔ Holds L goal (table_at ts table) (line_at ts line)
