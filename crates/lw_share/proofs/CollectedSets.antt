-- The sets of lists of ids: how a loop collects them, and how it compares two.
use Rattle.std.proofs.Common.{◌≡◌, ℕ, ◌+◌, ◌<◌, suc, zero, true, false, ◌||◌, List, [], ◌∷◌, ◌++◌, length, take, get_or, Option, Some, None, inl, inr, refl, sym, ap, subst, ◌∙◌, arith}
use Rattle.std.proofs.Math.Seq.{take-suc}
use Rattle.std.proofs.Math.Bool.{or-false}
use Rattle.std.proofs.lemmas.Bool.{or_cases, or_left, or_right, false≢true}
use Rattle.std.proofs.lemmas.List.Elements.{All-nil, All-cons}
use Rattle.lw_formula.specs.Formula.{Formula}
use Rattle.lw_formula.specs.Signed.{Signed}
use Rattle.lw_pool.specs.declared.id.SignedId.{SignedId}
use Rattle.lw_pool.specs.Region.{IsLive, signed_at, AreBothBelow}
use Rattle.lw_proof.specs.System.{IsWithin, same_signed}
use Rattle.lw_proof.specs.Derivation.{side}
use Rattle.lw_proof.specs.SignedIds.{Adds}
use Rattle.lw_proof.proofs.SignedMeaning.{same_signed-Decides}
use Rattle.lw_sets.specs.IdSets.{set_of, AreLive}
use Rattle.lw_sets.proofs.SetMembers.{set_of-append, set_of-added_all, added_live}
use Rattle.lw_sets.proofs.KeptMembers.{side_live}
use Rattle.lw_share.specs.Private.PremiseLists.{HaveOneSet}

take_more : {A : Type 0} (xs : List A) (i : ℕ) (d : A) → i < length xs → take (i + 1) xs ≡ take i xs ++ get_or xs i d ∷ []
take_more xs i d below = let e : i + 1 ≡ suc i = omega arith in ap (λ n. take n xs) e ∙ take-suc xs i d below

-- the set with the next id
pub collected_more : (old new xs : List SignedId) (i : ℕ) (d : SignedId) → i < length xs → Adds old new (get_or xs i d) → HaveOneSet (take i xs) old → HaveOneSet (take (i + 1) xs) new
collected_more old new xs i d below adds h ts = λ j s. at_each s j
  where
    x : SignedId
    x = get_or xs i d

    at_each : (s : Signed) → set_of ts new s ≡ set_of ts (take (i + 1) xs) s
    at_each s =
        set_of-added_all ts old new (x ∷ []) (new, adds, refl) s
        ∙ (λ j. h ts j s || set_of ts (x ∷ []) s)
        ∙ sym (set_of-append ts (take i xs) (x ∷ []) s)
        ∙ ap (λ (ys : List SignedId). set_of ts ys s) (sym (take_more xs i d below))

pub live_more : (ts : List Formula) (old new : List SignedId) (x : SignedId) → Adds old new x → AreLive ts old → IsLive ts x.form → AreLive ts new
live_more ts old new x adds l m =
    added_live ts old new (x ∷ []) (new, adds, refl) l
    (All-cons (λ (y : SignedId). IsLive ts y.form) x [] m (All-nil (λ (y : SignedId). IsLive ts y.form)))

pub both_live : (ts : List Formula) (p : SignedId × Option SignedId) → AreBothBelow (length ts) p → AreLive ts (side p.0 p.1)
both_live ts (a, None) l = side_live ts a None l tt
both_live ts (a, Some b) l = side_live ts a (Some b) l.0 l.1

-- no id, so no member
pub within_none : (ts : List Formula) (ys : List SignedId) → IsWithin (set_of ts []) (set_of ts ys)
within_none ts ys s e = absurd (false≢true e)

-- the next id is a member too
pub within_more : (ts : List Formula) (xs ys : List SignedId) (i : ℕ) (d : SignedId) → i < length xs → set_of ts ys (signed_at ts (get_or xs i d)) ≡ true →
    IsWithin (set_of ts (take i xs)) (set_of ts ys) → IsWithin (set_of ts (take (i + 1) xs)) (set_of ts ys)
within_more ts xs ys i d below there h s e =
    elim (or_cases (set_of ts (take i xs) s) (set_of ts (get_or xs i d ∷ []) s) both) [
      | inl before ↦ h s before
      | inr last ↦ subst (λ t. set_of ts ys t ≡ true) ((same_signed-Decides (signed_at ts (get_or xs i d)) s).0 (sym (or-false (same_signed (signed_at ts (get_or xs i d)) s)) ∙ last)) there
    ]
  where
    both : (set_of ts (take i xs) s || set_of ts (get_or xs i d ∷ []) s) ≡ true
    both = sym (set_of-append ts (take i xs) (get_or xs i d ∷ []) s) ∙ ap (λ (zs : List SignedId). set_of ts zs s) (sym (take_more xs i d below)) ∙ e

-- each id is a member
member_at : (ts : List Formula) (xs : List SignedId) (i : ℕ) (d : SignedId) → i < length xs → set_of ts xs (signed_at ts (get_or xs i d)) ≡ true
member_at ts [] i d below = absurd (omega (arith, below))
member_at ts (x ∷ xs) zero d below =
    or_left (same_signed (signed_at ts x) (signed_at ts x)) (set_of ts xs (signed_at ts x)) ((same_signed-Decides (signed_at ts x) (signed_at ts x)).1 refl)
member_at ts (x ∷ xs) (suc i) d below =
    or_right (same_signed (signed_at ts x) (signed_at ts (get_or xs i d))) (set_of ts xs (signed_at ts (get_or xs i d))) (member_at ts xs i d (omega (arith, below)))

-- an id that is no member
pub not_within : (ts : List Formula) (xs ys : List SignedId) (i : ℕ) (d : SignedId) → i < length xs → set_of ts ys (signed_at ts (get_or xs i d)) ≡ false →
    ¬ IsWithin (set_of ts xs) (set_of ts ys)
not_within ts xs ys i d below away h =
    false≢true (sym away ∙ h (signed_at ts (get_or xs i d)) (member_at ts xs i d below))
