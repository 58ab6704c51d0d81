-- What comes of a rule with two premises when the first is closed.
use Rattle.std.proofs.Common.{◌≡◌, ℕ, ◌+◌, ◌*◌, ◌<◌, ◌≤◌, Bool, true, Option, List, [], ◌∷◌, ◌++◌, sym, ap, subst, ◌∙◌, arith}
use Rattle.lw_pool.specs.declared.id.SignedId.{SignedId}
use Rattle.lw_proof.specs.declared.rule.Rule.{Rule}
use Rattle.lw_proof.specs.System.{Set}
use Rattle.lw_proof.specs.Tree.{Tree}
use Rattle.lw_proof.specs.Lean.{HasNew}
use Rattle.lw_closure.specs.Table.{Table, item_count}
use Rattle.lw_sat.specs.declared.board.Board.{Board}
use Rattle.lw_sat.specs.declared.frame.Folded.{Folded}
use Rattle.lw_sat.specs.declared.frame.Folded.TheVariants.{Closed, Turned}
use Rattle.lw_sat.specs.declared.frame.Frame.TheVariants.{First, Second}
use Rattle.lw_sat.specs.Closing.{Rests}
use Rattle.lw_sat.specs.Moves.{listed}
use Rattle.lw_sat.specs.SeedPath.{Spot, spot_of, Becomes, FoldsTo, IsClosedAt, IsTurned, IsWide, Link, room_at}
use Rattle.lw_sat.specs.Private.ClosedPremises.{FoldsFirst, TurnsFirst}
use Rattle.lw_sat.specs.Sets.{adding, sets, top, weight, weights, AreBelow}
use Rattle.lw_sat.proofs.BoardSpots.{kept_of, lower_of, set_of}
use Rattle.lw_sat.proofs.SetWeights.{weight_new, weight_some, weights_on}
use Rattle.lw_sat.proofs.UsedItems.{adding_old, new_below, none_used, rests_as, rests_drop}

-- with something new a set weighs a third at most
pub adding_lighter : (n m : ℕ) (cs : List ℕ) (X : Set ℕ) → n ≤ m → AreBelow n cs → HasNew X (adding cs X) → 3 * weight (adding cs X) m ≤ weight X m
adding_lighter n m cs X l h new = let (s, below, out, there) = new_below n cs X h new in weight_new X (adding cs X) (adding_old cs X) s out there m (omega arith)

-- the second premise weighs less than the branch point
pub second_falls : (n : ℕ) (Bs : List (Set ℕ)) (X Y : Set ℕ) → 3 * weight Y n ≤ weight X n → weights n Bs + 2 * weight Y n < weights n (Bs ++ X ∷ [])
second_falls n Bs X Y h = let all = weights_on n Bs X in omega (arith, weight_some X n)

pub branch_weighs : (n : ℕ) (Bs : List (Set ℕ)) (X : Set ℕ) → weights n Bs ≤ weights n (Bs ++ X ∷ [])
branch_weighs n Bs X = let all = weights_on n Bs X in omega arith

module _ (t : Table) (test : Set ℕ → Bool) (a b : Spot) (rule : Rule) (item : ℕ) (p q : ℕ × Option ℕ) (old new : Board) (proof : Tree SignedId) (wide : IsWide t old) (h : IsClosedAt t b old proof) where
  module _ (l : Link t test a (First rule item p q) b) where
    first_set : b.set ≡ adding (listed p) a.set
    first_set = let g : Spot → Set ℕ = λ s. s.set in ap g l.2

    first_below : b.below ≡ a.below ++ a.set ∷ []
    first_below = let g : Spot → List (Set ℕ) = λ s. s.below in ap g l.2

    first_kept : b.kept ≡ a.kept
    first_kept = let g : Spot → List (Set ℕ) = λ s. s.kept in ap g l.2

    rests_there : Rests t (top old.labels) (adding (listed p) a.set) proof
    rests_there = subst (λ X. Rests t (top old.labels) X proof) first_set h.rests

    folds_closed : (found : Tree SignedId) → TurnsFirst old new rule item p q proof a.below a.set (Closed found) → FoldsTo t test a b new (Closed found)
    folds_closed found (same, unused, becomes) = (
      record {
        below = lower_of old new _ becomes;
        kept = kept_of old new _ becomes ∙ h.kept ∙ first_kept;
        rests = rests_as t (top new.labels) (top old.labels) a.set found proof (set_of old new _ becomes) same (rests_drop t (listed p) (top old.labels) a.set proof rests_there (none_used (top old.labels) (listed p) unused));
      },
      subst (λ Bs. weights new.bits a.below ≤ weights new.bits Bs) (sym first_below) (branch_weighs new.bits a.below a.set),
    )

    turned : Becomes old new (record { set = adding (listed q) a.set; below = a.below; kept = sets old.used ++ top old.labels ∷ [] }) → IsTurned t test a b (Second rule item p q proof) new
    turned becomes =
        let set : top new.labels ≡ adding (listed q) a.set = set_of old new _ becomes in
        record {
          link = (l.0, (top old.labels, rests_there, becomes.spot ∙ (λ i. record a { set = adding (listed q) a.set; kept = (h.kept ∙ first_kept) i ++ top old.labels ∷ [] })));
          passes = subst (λ X. test X ≡ true) (sym set) l.1;
          falls =
              subst (λ Bs. room_at new.bits (spot_of new) < weights new.bits Bs) (sym first_below)
              (subst (λ s. room_at new.bits s < weights new.bits (a.below ++ a.set ∷ [])) (sym becomes.spot)
              (second_falls new.bits a.below a.set (adding (listed q) a.set) (adding_lighter (item_count t) new.bits (listed q) a.set (let same = becomes.bits in omega arith) l.0.sides.1.0 l.0.gains.1.0)));
        }

    folds_turned : (frame : _) → TurnsFirst old new rule item p q proof a.below a.set (Turned frame) → FoldsTo t test a b new (Turned frame)
    folds_turned frame (same, becomes) = subst (λ f. IsTurned t test a b f new) (sym same) (turned becomes)

    pub first_folds : (folded : Folded) → FoldsFirst old new rule item p q proof folded → FoldsTo t test a b new folded
    first_folds (Closed found) f = folds_closed found (f a.below a.set (h.below ∙ first_below))
    first_folds (Turned frame) f = folds_turned frame (f a.below a.set (h.below ∙ first_below))
