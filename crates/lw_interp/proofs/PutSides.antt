-- The sides that two lists of ids stand for, with components put to them and cut back.
use Rattle.std.proofs.Common.{◌≡◌, Bool, true, false, if◌then◌else◌, List, [], ◌∷◌, length, take, Option, None, Some, refl, sym, ap, subst, ◌∙◌, arith}
use Rattle.std.proofs.Math.Bool.{or-false}
use Rattle.std.proofs.lemmas.List.{take_all}
use Rattle.lw_formula.specs.declared.sign.Sign.TheVariants.{T, F}
use Rattle.lw_formula.specs.Formula.{Formula}
use Rattle.lw_formula.specs.Signed.{Signed}
use Rattle.lw_pool.specs.declared.id.FormId.{FormId}
use Rattle.lw_pool.specs.declared.id.SignedId.{SignedId}
use Rattle.lw_pool.specs.Region.{tree_at, signed_at, Grows, AreBothBelow}
use Rattle.lw_proof.specs.System.{same_signed}
use Rattle.lw_proof.specs.Derivation.{side, only}
use Rattle.lw_sets.specs.IdSets.{among, set_of, AreLive}
use Rattle.lw_sets.proofs.GrownPools.{listed_grows, AreLive_grows}
use Rattle.lw_sets.proofs.SetMembers.{set_of_side, cut_back, added_live}
use Rattle.lw_sets.proofs.KeptMembers.{side_live}
use Rattle.lw_interp.specs.declared.sides.Place.{Place}
use Rattle.lw_interp.specs.declared.sides.Place.TheVariants.{Left, Right, Neither}
use Rattle.lw_interp.specs.declared.sides.SideIds.{SideIds}
use Rattle.lw_interp.specs.Maehara.{Sides, put, start}
use Rattle.lw_interp.specs.Private.SideLists.{sides_at, place_of, is_left, is_right, put_at, counts_of, cut_to, AreSidesLive, IsPut}

-- the sides stay in a pool that grows
pub sides_grow : (now ts : List Formula) → Grows now ts → (V : SideIds) → AreSidesLive now V → sides_at ts V ≡ sides_at now V
sides_grow now ts g V l = λ i. record { left = among (listed_grows now ts g V.left l.0 i); right = among (listed_grows now ts g V.right l.1 i) }

pub AreSidesLive_grows : (now ts : List Formula) → Grows now ts → (V : SideIds) → AreSidesLive now V → AreSidesLive ts V
AreSidesLive_grows now ts g V l = (AreLive_grows now ts g V.left l.0, AreLive_grows now ts g V.right l.1)

by_place : (l r : Bool) (cs : List Signed) (U : Sides) →
    put (is_left (if l then Left else if r then Right else Neither)) (is_right (if l then Left else if r then Right else Neither)) cs U ≡ put l r cs U
by_place true r cs U = refl
by_place false true cs U = refl
by_place false false cs U = refl

-- what is put at the place of s is put beside s
pub put_in_place : (W : Sides) (s : Signed) (cs : List Signed) (U : Sides) → put (is_left (place_of W s)) (is_right (place_of W s)) cs U ≡ put (W.left s) (W.right s) cs U
put_in_place W s cs U = by_place (W.left s) (W.right s) cs U

by_left : (l r : Bool) → is_left (if l then Left else if r then Right else Neither) ≡ l
by_left true r = refl
by_left false true = refl
by_left false false = refl

pub left_place : (W : Sides) (s : Signed) → is_left (place_of W s) ≡ W.left s
left_place W s = by_left (W.left s) (W.right s)

pub put_sides : (ts : List Formula) (place : Place) (p : SignedId × Option SignedId) (old new : SideIds) → IsPut place (side p.0 p.1) old new →
    sides_at ts new ≡ put_at ts place p (sides_at ts old)
put_sides ts Left p old new h = λ i. record { left = set_of_side ts old.left new.left p h.0 i; right = set_of ts (h.1 i) }
put_sides ts Right p old new h = λ i. record { left = set_of ts (h.1 i); right = set_of_side ts old.right new.right p h.0 i }
put_sides ts Neither p old new h = ap (sides_at ts) h

whole : (xs : List SignedId) → take (length xs) xs ≡ xs
whole xs = take_all (length xs) xs (omega arith)

-- cut back to as many ids as they had, the sides are as before
pub put_back : (place : Place) (xs : List SignedId) (old new : SideIds) → IsPut place xs old new → cut_to (counts_of old) new ≡ old
put_back Left xs old new h = λ i. record { left = cut_back old.left new.left xs h.0 i; right = (ap (take (length old.right)) h.1 ∙ whole old.right) i }
put_back Right xs old new h = λ i. record { left = (ap (take (length old.left)) h.1 ∙ whole old.left) i; right = cut_back old.right new.right xs h.0 i }
put_back Neither xs old new h = ap (cut_to (counts_of old)) h ∙ (λ i. record { left = whole old.left i; right = whole old.right i })

side_of_live : (now : List Formula) (p : SignedId × Option SignedId) → AreBothBelow (length now) p → AreLive now (side p.0 p.1)
side_of_live now (a, None) l = side_live now a None l tt
side_of_live now (a, Some b) l = side_live now a (Some b) l.0 l.1

pub put_live : (now : List Formula) (place : Place) (p : SignedId × Option SignedId) (old new : SideIds) → IsPut place (side p.0 p.1) old new →
    AreBothBelow (length now) p → AreSidesLive now old → AreSidesLive now new
put_live now Left p old new h b l =
    (added_live now old.left new.left (side p.0 p.1) h.0 l.0 (side_of_live now p b), subst (AreLive now) (sym h.1) l.1)
put_live now Right p old new h b l =
    (subst (AreLive now) (sym h.1) l.0, added_live now old.right new.right (side p.0 p.1) h.0 l.1 (side_of_live now p b))
put_live now Neither p old new h b l = subst (AreSidesLive now) (sym h) l

only_at : (ts : List Formula) (x : SignedId) (xs : List SignedId) → xs ≡ x ∷ [] → set_of ts xs ≡ only (signed_at ts x)
only_at ts x xs e = ap (set_of ts) e ∙ (λ i s. or-false (same_signed (signed_at ts x) s) i)

-- the sides with which the reading begins
pub start_at : (ts : List Formula) (a b : FormId) (V : SideIds) → V.left ≡ record { sign = T; form = a } ∷ [] → V.right ≡ record { sign = F; form = b } ∷ [] →
    sides_at ts V ≡ start (tree_at ts a) (tree_at ts b)
start_at ts a b V l r = λ i. record {
  left = only_at ts (record { sign = T; form = a }) V.left l i;
  right = only_at ts (record { sign = F; form = b }) V.right r i;
}
