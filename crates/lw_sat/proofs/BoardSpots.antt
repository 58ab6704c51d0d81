-- Where a board stands after its rows have changed.
use Rattle.std.proofs.Common.{◌≡◌, ℕ, ◌+◌, ◌≤◌, Bool, true, false, ◌||◌, List, [], ◌∷◌, ◌++◌, length, refl, sym, ap, ◌∙◌, arith}
use Rattle.std.proofs.lemmas.List.{length_push, length-map}
use Rattle.lw_proof.specs.System.{Set}
use Rattle.lw_rows.specs.RowStack.{Region, IsRegion, empty_row}
use Rattle.lw_sat.specs.declared.board.Board.{Board}
use Rattle.lw_sat.specs.Sets.{either, has, nothing, without, top, sets, lower}
use Rattle.lw_sat.specs.Private.LastRow.{HasTop, Replaces}
use Rattle.lw_sat.specs.SeedPath.{Spot, spot_of, Becomes}
use Rattle.lw_sat.proofs.RowsAsSets.{has-empty, sets_split, top-push, lower-push, same_ends}
use Rattle.lw_sat.proofs.LastRowChanges.{replaces_on, replaces_as}

-- two spots that agree in each part are one
pub same_spot : (X Y : Set ℕ) (Bs Cs Ks Ls : List (Set ℕ)) → X ≡ Y → Bs ≡ Cs → Ks ≡ Ls →
    (let a : Spot = record { set = X; below = Bs; kept = Ks } in a) ≡ record { set = Y; below = Cs; kept = Ls }
same_spot X Y Bs Cs Ks Ls e f g = λ i. record { set = e i; below = f i; kept = g i }

-- the last of the kept rows
pub kept_top : (u : Region) (Xs : List (Set ℕ)) (U : Set ℕ) → IsRegion u → sets u ≡ Xs ++ U ∷ [] → HasTop u × (lower u ≡ Xs) × (top u ≡ U)
kept_top u Xs U region e =
    let n : length u.rows ≡ length Xs + 1 = sym (length-map u.rows has) ∙ ap length e ∙ length_push Xs U in
    let h : HasTop u = record { some = omega arith; region = region } in
    let ends = same_ends (lower u) Xs (top u) U (sym (sets_split u h) ∙ e) in
    (h, ends.0, ends.1)

pub some_kept : (u : Region) → IsRegion u → 1 ≤ length (sets u) → HasTop u
some_kept u region some = record { some = let n = length-map u.rows has in omega arith; region = region }

-- the label has changed, and what is kept
pub becomes_kept : (b c : Board) (X : Set ℕ) (Ks : List (Set ℕ)) → Replaces b.labels c.labels X → sets c.used ≡ Ks → c.bits ≡ b.bits → Becomes b c (record (spot_of b) { set = X; kept = Ks })
becomes_kept b c X Ks r e bits = record { spot = same_spot (top c.labels) X (lower c.labels) (lower b.labels) (sets c.used) Ks r.top r.lower e; bits = bits }

pub unchanged : (r : Region) → HasTop r → Replaces r r (top r)
unchanged r h = record { there = h; top = refl; lower = refl; width = refl }

or_none : (X : Set ℕ) → either X nothing ≡ X
or_none X = λ j i. at (X i) j where
  at : (b : Bool) → (b || false) ≡ b
  at true = refl
  at false = refl

-- one set in place of another
pub refilled : (l m n : Region) (X U : Set ℕ) → Replaces l m nothing → Replaces m n (either X (top m)) → X ≡ U → Replaces l n U
refilled l m n X U h k e = replaces_as l n (either X (top m)) U (ap (either X) h.top ∙ or_none X ∙ e) (replaces_on l m n nothing (either X (top m)) h k)

-- a row is pushed and filled
pub pushed_full : (u v w : Region) (X : Set ℕ) (spare : ℕ) → v ≡ record u { rows = u.rows ++ empty_row u.width ∷ []; spare = spare } → Replaces v w (either X (top v)) → sets w ≡ sets u ++ X ∷ []
pushed_full u v w X spare e r =
    let below : lower v ≡ sets u = ap lower e ∙ lower-push u (empty_row u.width) spare in
    let none : top v ≡ nothing = ap top e ∙ top-push u (empty_row u.width) spare ∙ has-empty u.width in
    sets_split w r.there ∙ (λ i. (r.lower ∙ below) i ++ (r.top ∙ ap (either X) none ∙ or_none X) i ∷ [])

pub branches_poured : (l m n u v : Region) (U : Set ℕ) (cs ds : List ℕ) → Replaces u v (without cs (top u)) → Replaces l m (without ds (top l)) → Replaces m n (either (top v) (top m)) → top u ≡ U → Replaces l n (either (without cs U) (without ds (top l)))
branches_poured l m n u v U cs ds h k p e =
    replaces_as l n (either (top v) (top m)) (either (without cs U) (without ds (top l))) (λ i. either ((h.top ∙ ap (without cs) e) i) (k.top i))
    (replaces_on l m n (without ds (top l)) (either (top v) (top m)) k p)

-- the label changes once more
pub becomes_more : (b c d : Board) (X : Set ℕ) (Ks : List (Set ℕ)) (f : Set ℕ → Set ℕ) → Becomes b c (record (spot_of b) { set = X; kept = Ks }) →
    Becomes c d (record (spot_of c) { set = f (top c.labels) }) → Becomes b d (record (spot_of b) { set = f X; kept = Ks })
becomes_more b c d X Ks f h k = record {
  spot = let g : Spot → Spot = λ a. record a { set = f a.set } in k.spot ∙ ap g h.spot;
  bits = k.bits ∙ h.bits;
}

-- what the label has become is what it has
pub becomes_itself : (b c : Board) (X : Set ℕ) (Ks : List (Set ℕ)) → Becomes b c (record (spot_of b) { set = X; kept = Ks }) → Becomes b c (record (spot_of b) { set = top c.labels; kept = Ks })
becomes_itself b c X Ks h = record {
  spot = same_spot (top c.labels) (top c.labels) (lower c.labels) (lower b.labels) (sets c.used) Ks refl (let g : Spot → List (Set ℕ) = λ a. a.below in ap g h.spot) (let g : Spot → List (Set ℕ) = λ a. a.kept in ap g h.spot);
  bits = h.bits;
}

-- what is used is kept, and the branch point is the label again
pub kept_back : (b c d : Board) (Bs : List (Set ℕ)) (X : Set ℕ) → Becomes b c (record (spot_of b) { kept = sets b.used ++ top b.labels ∷ [] }) →
    Becomes c d (record (spot_of c) { set = X; below = Bs }) → Becomes b d (record { set = X; below = Bs; kept = sets b.used ++ top b.labels ∷ [] })
kept_back b c d Bs X h k = record {
  spot = let g : Spot → Spot = λ a. record a { set = X; below = Bs } in k.spot ∙ ap g h.spot;
  bits = k.bits ∙ h.bits;
}

pub lower_of : (b c : Board) (a : Spot) → Becomes b c a → lower c.labels ≡ a.below
lower_of b c a h = let g : Spot → List (Set ℕ) = λ a. a.below in ap g h.spot

pub kept_of : (b c : Board) (a : Spot) → Becomes b c a → sets c.used ≡ a.kept
kept_of b c a h = let g : Spot → List (Set ℕ) = λ a. a.kept in ap g h.spot

pub set_of : (b c : Board) (a : Spot) → Becomes b c a → top c.labels ≡ a.set
set_of b c a h = let g : Spot → Set ℕ = λ a. a.set in ap g h.spot

-- the used items that were kept stand for the label
pub back_restored : (b c d : Board) (Bs Ks : List (Set ℕ)) (X U : Set ℕ) → Becomes b c (record { set = X; below = Bs; kept = Ks ++ U ∷ [] }) →
    Becomes c d (record (spot_of c) { set = U; kept = Ks }) → Becomes b d (record { set = U; below = Bs; kept = Ks })
back_restored b c d Bs Ks X U h k = record {
  spot = let g : Spot → Spot = λ a. record a { set = U; kept = Ks } in k.spot ∙ ap g h.spot;
  bits = k.bits ∙ h.bits;
}

-- other items come into the label
pub label_more : (b c d : Board) (a : Spot) (f : Set ℕ → Set ℕ) → Becomes b c a → Becomes c d (record (spot_of c) { set = f (top c.labels) }) → Becomes b d (record a { set = f a.set })
label_more b c d a f h k = record {
  spot = let g : Spot → Spot = λ a. record a { set = f a.set } in k.spot ∙ ap g h.spot;
  bits = k.bits ∙ h.bits;
}

pub keep_then_back : (b c d : Board) (Bs : List (Set ℕ)) (X : Set ℕ) → Becomes b c (record (spot_of b) { kept = sets b.used ++ top b.labels ∷ [] }) → lower b.labels ≡ Bs ++ X ∷ [] →
    ((Xs : List (Set ℕ)) (Y : Set ℕ) → lower c.labels ≡ Xs ++ Y ∷ [] → Becomes c d (record (spot_of c) { set = Y; below = Xs })) →
    Becomes b d (record { set = X; below = Bs; kept = sets b.used ++ top b.labels ∷ [] })
keep_then_back b c d Bs X h e back = kept_back b c d Bs X h (back Bs X (lower_of b c _ h ∙ e))

pub pushed_some : (Xs Bs : List (Set ℕ)) (X : Set ℕ) → Xs ≡ Bs ++ X ∷ [] → 1 ≤ length Xs
pushed_some Xs Bs X e = let n = ap length e in omega (arith, length_push Bs X)
