-- What each closed premise of a rule makes of the rule.
use Rattle.std.specs.Prelude.{◌≡◌, ℕ, false, Option, List, [], ◌∷◌, ◌++◌}
use Rattle.std.specs.List.{list_any}
use Rattle.lw_pool.specs.declared.id.SignedId.{SignedId}
use Rattle.lw_proof.specs.declared.rule.Rule.{Rule}
use Rattle.lw_proof.specs.System.{Set}
use Rattle.lw_proof.specs.Tree.{Tree}
use Rattle.lw_closure.specs.Table.{Table}
use Rattle.lw_sat.specs.declared.board.Board.{Board}
use Rattle.lw_sat.specs.declared.frame.Frame.TheVariants.{Second}
use Rattle.lw_sat.specs.declared.frame.Folded.{Folded}
use Rattle.lw_sat.specs.declared.frame.Folded.TheVariants.{Closed, Turned}
use Rattle.lw_sat.specs.Sets.{adding, top, lower, sets}
use Rattle.lw_sat.specs.Moves.{listed, Moves}
use Rattle.lw_sat.specs.Closing.{Rests}
use Rattle.lw_sat.specs.SeedPath.{spot_of, Becomes}

-- of a proof of the one premise, which rests on the old label, comes one of what the rule is used on, which rests on the new label
abbrev pub RestsAlone : Table → Board → Board → Rule → ℕ → ℕ × Option ℕ → Tree SignedId → Tree SignedId → Type 0
RestsAlone t old new rule item side proof whole =
    (X : Set ℕ) → Moves t X rule item (listed side ∷ []) → Rests t (top old.labels) (adding (listed side) X) proof → Rests t (top new.labels) X whole

-- the same of two premises, where the proof of the first rests on the used items that were kept last
abbrev pub RestsBoth : Table → Board → Board → Rule → ℕ → ℕ × Option ℕ → ℕ × Option ℕ → Tree SignedId → Tree SignedId → Tree SignedId → Type 0
RestsBoth t old new rule item first second first_proof proof whole =
    (Ks : List (Set ℕ)) (U X : Set ℕ) → sets old.used ≡ Ks ++ U ∷ [] → Moves t X rule item (listed first ∷ listed second ∷ []) →
    Rests t U (adding (listed first) X) first_proof → Rests t (top old.labels) (adding (listed second) X) proof → Rests t (top new.labels) X whole

-- what comes of the closed first premise of a rule at the branch point X: where its proof uses nothing of what the rule adds, the proof and
-- what it uses stand for X, else the second premise is under work
abbrev pub TurnsFirst : Board → Board → Rule → ℕ → ℕ × Option ℕ → ℕ × Option ℕ → Tree SignedId → List (Set ℕ) → Set ℕ → Folded → Type 0
TurnsFirst old new rule item p q proof Bs X (Closed found) =
    (found ≡ proof) × (list_any (top old.labels) (listed p) ≡ false) × Becomes old new (record (spot_of old) { below = Bs })
TurnsFirst old new rule item p q proof Bs X (Turned frame) =
    (frame ≡ Second rule item p q proof)
    × Becomes old new (record { set = adding (listed q) X; below = Bs; kept = sets old.used ++ top old.labels ∷ [] })

-- the same, whatever the last branch point is
abbrev pub FoldsFirst : Board → Board → Rule → ℕ → ℕ × Option ℕ → ℕ × Option ℕ → Tree SignedId → Folded → Type 0
FoldsFirst old new rule item p q proof folded =
    (Bs : List (Set ℕ)) (X : Set ℕ) → lower old.labels ≡ Bs ++ X ∷ [] → TurnsFirst old new rule item p q proof Bs X folded
