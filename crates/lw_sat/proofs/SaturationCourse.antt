-- Saturations from call to call.
use Rattle.std.proofs.Common.{◌≡◌, ℕ, ◌+◌, ◌%◌, ◌<◌, ◌≤◌, Bool, true, false, ◌||◌, Option, Some, None, List, [], ◌∷◌, ◌++◌, eqb, suc, length, get_or, take, inl, inr, refl, sym, ap, subst, ◌∙◌, arith}
use Rattle.std.specs.Option.{IfNone}
use Rattle.std.specs.List.{All}
use Rattle.std.proofs.lemmas.List.{take_all, take_more}
use Rattle.std.proofs.lemmas.Bool.{both_ways, or_cases, eqb-true, eq-eqb, false≢true, lt-ltb}
use Rattle.lw_pool.specs.declared.id.SignedId.{SignedId}
use Rattle.lw_proof.specs.declared.rule.Rule.{Rule}
use Rattle.lw_proof.specs.System.{Set}
use Rattle.lw_proof.specs.Tree.{Tree}
use Rattle.lw_proof.specs.Derivation.{has_cut, is_modal_part}
use Rattle.lw_proof.specs.Lean.{HasNew}
use Rattle.lw_closure.specs.Table.{Table, item_count, entry_at}
use Rattle.lw_closure.proofs.ItemNumbers.{sign_even, flip_even}
use Rattle.lw_sat.specs.declared.board.Board.{Board}
use Rattle.lw_sat.specs.declared.frame.Frame.{Frame}
use Rattle.lw_sat.specs.declared.saturation.State.{State}
use Rattle.lw_sat.specs.declared.saturation.State.TheVariants.{Working, Waiting, Closed, Answered, Failed}
use Rattle.lw_sat.specs.Closing.{Closes}
use Rattle.lw_sat.specs.Course.{is_waiting, state_room, state_steps, StateFits}
use Rattle.lw_sat.specs.Private.FoldedStates.{state_from}
use Rattle.lw_sat.specs.Moves.{Moves, Survives}
use Rattle.lw_sat.specs.SeedPath.{Spot, root, room_below, spot_of, most_steps, Becomes, IsWide}
use Rattle.lw_sat.specs.Saturated.{every, fold_steps, room, FoldsAll, IsAt, IsClosing}
use Rattle.lw_sat.specs.Sets.{adding, among, top}
use Rattle.lw_sat.proofs.SetWeights.{weight_some}
use Rattle.lw_sat.proofs.UnwoundFrames.{seed_closed}
use Rattle.lw_sat.proofs.UsedItems.{closes_rests}

-- every set passes the test of every set
pub every_survives : (t : Table) → Survives t every
every_survives t = λ X i cs below there side new e. refl

module _ (t : Table) (X : Set ℕ) (test : Set ℕ → Bool) (fs : List Frame) (b : Board) where
  pub at_waiting : (s : State) → is_waiting s ≡ true → StateFits t X test fs b s → IsAt t X test fs b
  at_waiting Waiting e h = h
  at_waiting Working e h = h
  at_waiting (Closed p) e h = absurd (false≢true e)
  at_waiting Answered e h = absurd (false≢true e)
  at_waiting Failed e h = absurd (false≢true e)

  pub fits_after : (found : Option (Tree SignedId)) → FoldsAll t X test fs b found → StateFits t X test fs b (state_from found)
  fits_after None h = h
  fits_after (Some p) h = seed_closed t X b p h

  -- the label that waits is closed by a proof
  pub closing_label : (p : Tree SignedId) → IsAt t X test fs b → Closes t (top b.labels) p → IsClosing t X test fs b p
  closing_label p h c = record {
    wide = h.wide;
    seed = h.seed;
    spot = spot_of b;
    leads = h.leads;
    closed = record { below = refl; kept = refl; rests = closes_rests t (top b.labels) p c };
  }

pub room_waiting : (b : Board) (s : State) → is_waiting s ≡ true → state_room b s ≡ room b
room_waiting b Waiting e = refl
room_waiting b Working e = refl
room_waiting b (Closed p) e = absurd (false≢true e)
room_waiting b Answered e = absurd (false≢true e)
room_waiting b Failed e = absurd (false≢true e)

pub steps_waiting : (fs : List Frame) (s : State) → is_waiting s ≡ true → state_steps fs s ≡ most_steps fs
steps_waiting fs Waiting e = refl
steps_waiting fs Working e = refl
steps_waiting fs (Closed p) e = absurd (false≢true e)
steps_waiting fs Answered e = refl
steps_waiting fs Failed e = refl

pub room_some : (b : Board) → 0 < room b
room_some b = let some = weight_some (top b.labels) b.bits in omega arith

pub below_left : (b : Board) → room_below b.bits (spot_of b) ≤ room b
below_left b = omega arith

pub room_after : (b : Board) (n m : ℕ) (found : Option (Tree SignedId)) → m ≤ n → 0 < n → IfNone found (room b < m) → state_room b (state_from found) < n
room_after b n m None more some less = omega arith
room_after b n m (Some p) more some less = some

pub steps_after : (fs : List Frame) (found : Option (Tree SignedId)) → state_steps fs (state_from found) ≡ fold_steps fs found
steps_after fs None = refl
steps_after fs (Some p) = refl

-- a cut on a modal formula of which the label has neither item
pub cut_moves : (t : Table) (X : Set ℕ) (i : ℕ) → i % 2 ≡ 0 → i + 1 < item_count t → has_cut t.logic ≡ true → is_modal_part (entry_at t i).parts ≡ true → X i ≡ false → X (i + 1) ≡ false →
    Moves t X Rule.Cut i ((i ∷ []) ∷ ((i + 1) ∷ []) ∷ [])
cut_moves t X i even below cut modal here there = record {
  below = omega (arith, below);
  sides = ((omega (arith, below), tt), ((below, tt), tt));
  leaves = record {
    applies = λ Y h. (cut, sign_even i even, modal, lt-ltb i (item_count t) (omega (arith, below)));
    still = refl;
    left = λ Y. (λ j. adding (i ∷ []) Y ∷ adding (flip_even i even j ∷ []) Y ∷ []);
  };
  there = tt;
  gains = (new i here, (new (i + 1) there, tt));
} where
  new : (k : ℕ) → X k ≡ false → HasNew X (adding (k ∷ []) X)
  new k out = (k, ap (λ b. (b || false) || X k) (eq-eqb k k refl), λ in_. both_ways (X k) out in_)

-- the set of a list with one more member
swap_or : (a b r : Bool) → ((b || false) || (a || r)) ≡ (a || ((b || false) || r))
swap_or true true r = refl
swap_or true false r = refl
swap_or false true r = refl
swap_or false false r = refl

none_or : (b : Bool) → ((b || false) || false) ≡ (b || false)
none_or true = refl
none_or false = refl

pub seed_more : (xs : List ℕ) (c : ℕ) → adding (c ∷ []) (among xs) ≡ among (xs ++ c ∷ [])
seed_more xs c = λ j i. at xs i j where
  at : (xs : List ℕ) (i : ℕ) → ((eqb c i || false) || among xs i) ≡ among (xs ++ c ∷ []) i
  at [] i = none_or (eqb c i)
  at (x ∷ xs) i = swap_or (eqb x i) (eqb c i) (among xs i) ∙ ap (λ b. eqb x i || b) (at xs i)

pub among_all : (n : ℕ) (xs : List ℕ) → All (λ k. k < n) xs → (i : ℕ) → among xs i ≡ true → i < n
among_all n [] h i e = absurd (false≢true e)
among_all n (x ∷ xs) h i e =
    elim (or_cases (eqb x i) (among xs i) e) [ inl a ↦ subst (λ k. k < n) (eqb-true x i a) (h 0 0 (omega arith)) | inr b ↦ among_all n xs (λ k d l. h (suc k) d (omega arith)) i b ]

-- one more item of the seed is put in
pub seed_added : (xs : List ℕ) (k : ℕ) (b c : Board) → k < length xs → spot_of b ≡ root (among (take k xs)) →
    Becomes b c (record (spot_of b) { set = adding (get_or xs k 0 ∷ []) (top b.labels) }) → spot_of c ≡ root (among (take (k + 1) xs))
seed_added xs k b c l e h =
    let g : Spot → Spot = λ a. record a { set = adding (get_or xs k 0 ∷ []) a.set } in
    h.spot ∙ ap g e ∙ ap root (seed_more (take k xs) (get_or xs k 0) ∙ ap among (sym (take_more xs k 0 l)))

-- the whole seed is in
pub seed_at : (t : Table) (xs : List ℕ) (test : Set ℕ → Bool) (k : ℕ) (b : Board) → IsWide t b → spot_of b ≡ root (among (take k xs)) → length xs ≤ k →
    All (λ i. i < item_count t) xs → test (among xs) ≡ true → IsAt t (among xs) test [] b
seed_at t xs test k b wide e all own passes =
    let spot : spot_of b ≡ root (among xs) = e ∙ ap (λ ys. root (among ys)) (take_all k xs all) in
    let g : Spot → Set ℕ = λ a. a.set in
    record { wide = wide; seed = among_all (item_count t) xs own; leads = sym spot; passes = subst (λ X. test X ≡ true) (sym (ap g spot)) passes }
