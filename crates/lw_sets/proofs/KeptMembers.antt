-- What a step keeps of a set is what it keeps on account of each member.
use Rattle.std.proofs.Common.{◌≡◌, ℕ, ◌+◌, ◌<◌, take, get_or, Bool, true, false, ◌&&◌, ◌||◌, List, [], ◌∷◌, ◌++◌, map, length, Option, None, Some, refl, sym, ap, ◌∙◌}
use Rattle.std.specs.Option.{IfSome}
use Rattle.std.proofs.Math.Bool.{or-false, and-false, and-or_distrib_left}
use Rattle.std.proofs.lemmas.List.{take_more}
use Rattle.std.proofs.lemmas.List.Elements.{All-nil, All-cons}
use Rattle.lw_formula.specs.declared.logic.Logic.{Logic}
use Rattle.lw_formula.specs.declared.logic.Logic.TheVariants.{K, KT, S4, S5, GL, Grz, K4, KD}
use Rattle.lw_formula.specs.declared.sign.Sign.TheVariants.{T, F}
use Rattle.lw_formula.specs.declared.parts.Parts.{Parts}
use Rattle.lw_formula.specs.declared.parts.Parts.TheVariants.{Nu, Pi}
use Rattle.lw_formula.specs.Formula.{Formula, nec, poss, same_formula}
use Rattle.lw_formula.specs.Signed.{Signed, SignedSet}
use Rattle.lw_formula.specs.Components.{parts_of}
use Rattle.lw_pool.specs.declared.id.SignedId.{SignedId}
use Rattle.lw_pool.specs.Region.{IsLive, Grows, signed_at, parts_at, ArePartsBelow}
use Rattle.lw_proof.specs.System.{trees, same_signed, nu_of}
use Rattle.lw_proof.specs.Derivation.{side, kept, is_nu, is_modal_part}
use Rattle.lw_proof.proofs.SignedMeaning.{same_signed-Decides}
use Rattle.lw_sets.specs.IdSets.{among, set_of, AreLive, AddsAll}
use Rattle.lw_sets.specs.Private.KeptIds.{kept_by}
use Rattle.lw_sets.proofs.GrownPools.{signed_grows, parts_grow}
use Rattle.lw_sets.proofs.SetMembers.{set_of-append, set_of-added_all}

-- the ids that are kept stand for the signed formulas that are kept
kept_by_at : (ts : List Formula) (L : Logic) (x : SignedId) (p : Parts SignedId) → map (signed_at ts) (kept_by L x p) ≡ kept_by L (signed_at ts x) (parts_at ts p)
kept_by_at ts K x (Nu c) = refl
kept_by_at ts KT x (Nu c) = refl
kept_by_at ts S4 x (Nu c) = refl
kept_by_at ts S5 x (Nu c) = refl
kept_by_at ts S5 x (Pi c) = refl
kept_by_at ts GL x (Nu c) = refl
kept_by_at ts Grz x (Nu c) = refl
kept_by_at ts K4 x (Nu c) = refl
kept_by_at ts KD x (Nu c) = refl
kept_by_at ts _ x _ = refl

permuted : (x y u v : Bool) → ((x || y) || (u || v)) ≡ ((x || u) || (y || v))
permuted true y u v = refl
permuted false true true v = refl
permuted false true false v = refl
permuted false false u v = refl

-- a step keeps of two sets together what it keeps of each
kept_both : (L : Logic) (X Y : SignedSet) (s : Signed) → kept trees L (λ t. X t || Y t) s ≡ (kept trees L X s || kept trees L Y s)
kept_both K X Y s = refl
kept_both KT X Y s = refl
kept_both S4 X Y s = and-or_distrib_left (is_nu (parts_of s)) (X s) (Y s)
kept_both S5 X Y s = and-or_distrib_left (is_modal_part (parts_of s)) (X s) (Y s)
kept_both GL X Y s =
    ap (λ b. b || (X (nu_of s) || Y (nu_of s))) (and-or_distrib_left (is_nu (parts_of s)) (X s) (Y s))
    ∙ permuted (is_nu (parts_of s) && X s) (is_nu (parts_of s) && Y s) (X (nu_of s)) (Y (nu_of s))
kept_both Grz X Y s = and-or_distrib_left (is_nu (parts_of s)) (X s) (Y s)
kept_both K4 X Y s =
    ap (λ b. b || (X (nu_of s) || Y (nu_of s))) (and-or_distrib_left (is_nu (parts_of s)) (X s) (Y s))
    ∙ permuted (is_nu (parts_of s) && X s) (is_nu (parts_of s) && Y s) (X (nu_of s)) (Y (nu_of s))
kept_both KD X Y s = refl

-- and of the empty set nothing
kept_none : (L : Logic) (s : Signed) → kept trees L (λ t. false) s ≡ false
kept_none K s = refl
kept_none KT s = refl
kept_none S4 s = and-false (is_nu (parts_of s))
kept_none S5 s = and-false (is_modal_part (parts_of s))
kept_none GL s = ap (λ b. b || false) (and-false (is_nu (parts_of s)))
kept_none Grz s = and-false (is_nu (parts_of s))
kept_none K4 s = ap (λ b. b || false) (and-false (is_nu (parts_of s)))
kept_none KD s = refl

-- the component of a ν
under_true : (a b : Formula) → same_formula a (nec b) ≡ among (kept_by K (T, a) (parts_of (T, a))) (T, b)
under_true (nec a) b = sym (or-false (same_formula a b))
under_true _ b = refl

under_false : (a b : Formula) → same_formula a (poss b) ≡ among (kept_by K (F, a) (parts_of (F, a))) (F, b)
under_false (poss a) b = sym (or-false (same_formula a b))
under_false _ b = refl

never_false : (a b : Formula) → false ≡ among (kept_by K (T, a) (parts_of (T, a))) (F, b)
never_false (nec a) b = refl
never_false _ b = refl

never_true : (a b : Formula) → false ≡ among (kept_by K (F, a) (parts_of (F, a))) (T, b)
never_true (poss a) b = refl
never_true _ b = refl

under_one : (t s : Signed) → same_signed t (nu_of s) ≡ among (kept_by K t (parts_of t)) s
under_one (T, a) (T, b) = under_true a b
under_one (T, a) (F, b) = never_false a b
under_one (F, a) (T, b) = never_true a b
under_one (F, a) (F, b) = under_false a b

-- a test of s is one of t where they are the same
moved : (f : Signed → Bool) (t s : Signed) → (f s && same_signed t s) ≡ (f t && same_signed t s)
moved f t s = by (same_signed t s) refl
  where
    by : (b : Bool) → same_signed t s ≡ b → (f s && b) ≡ (f t && b)
    by true e = ap (λ (u : Signed). f u && true) (sym ((same_signed-Decides t s).0 e))
    by false e = and-false (f s) ∙ sym (and-false (f t))

nu_kept : (p : Parts Signed) (t s : Signed) → (is_nu p && same_signed t s) ≡ among (kept_by S4 t p) s
nu_kept (Nu c) t s = sym (or-false (same_signed t s))
nu_kept _ t s = refl

modal_kept : (p : Parts Signed) (t s : Signed) → (is_modal_part p && same_signed t s) ≡ among (kept_by S5 t p) s
modal_kept (Nu c) t s = sym (or-false (same_signed t s))
modal_kept (Pi c) t s = sym (or-false (same_signed t s))
modal_kept _ t s = refl

both_kept : (p : Parts Signed) (t s : Signed) → (among (kept_by S4 t p) s || among (kept_by K t p) s) ≡ among (kept_by GL t p) s
both_kept (Nu c) t s = ap (λ b. b || (same_signed c s || false)) (or-false (same_signed t s))
both_kept _ t s = refl

nus_kept : (t s : Signed) → (is_nu (parts_of s) && same_signed t s) ≡ among (kept_by S4 t (parts_of t)) s
nus_kept t s = moved (λ u. is_nu (parts_of u)) t s ∙ nu_kept (parts_of t) t s

-- of one member a step keeps what it keeps on account of it
kept_one : (L : Logic) (t s : Signed) → kept trees L (same_signed t) s ≡ among (kept_by L t (parts_of t)) s
kept_one K t s = under_one t s
kept_one KT t s = under_one t s
kept_one S4 t s = nus_kept t s
kept_one S5 t s = moved (λ u. is_modal_part (parts_of u)) t s ∙ modal_kept (parts_of t) t s
kept_one GL t s = (λ i. nus_kept t s i || under_one t s i) ∙ both_kept (parts_of t) t s
kept_one Grz t s = nus_kept t s
kept_one K4 t s = (λ i. nus_kept t s i || under_one t s i) ∙ both_kept (parts_of t) t s
kept_one KD t s = under_one t s

-- before the first member
pub kept_before : (L : Logic) (ts : List Formula) → set_of ts [] ≡ kept trees L (set_of ts [])
kept_before L ts = λ i s. sym (kept_none L s) i

pub side_live : (now : List Formula) (a : SignedId) (o : Option SignedId) → IsLive now a.form → IfSome o (λ x. IsLive now x.form) → AreLive now (side a o)
side_live now a None l m = All-cons (λ (x : SignedId). IsLive now x.form) a [] l (All-nil (λ (x : SignedId). IsLive now x.form))
side_live now a (Some b) l m =
    All-cons (λ (x : SignedId). IsLive now x.form) a (b ∷ []) l
    (All-cons (λ (x : SignedId). IsLive now x.form) b [] m (All-nil (λ (x : SignedId). IsLive now x.form)))

pub kept_by_live : (now : List Formula) (L : Logic) (x : SignedId) (p : Parts SignedId) → IsLive now x.form → ArePartsBelow (length now) p → AreLive now (kept_by L x p)
kept_by_live now K x (Nu c) l m = side_live now c None m tt
kept_by_live now KT x (Nu c) l m = side_live now c None m tt
kept_by_live now S4 x (Nu c) l m = side_live now x None l tt
kept_by_live now S5 x (Nu c) l m = side_live now x None l tt
kept_by_live now S5 x (Pi c) l m = side_live now x None l tt
kept_by_live now GL x (Nu c) l m = side_live now x (Some c) l m
kept_by_live now Grz x (Nu c) l m = side_live now x None l tt
kept_by_live now K4 x (Nu c) l m = side_live now x (Some c) l m
kept_by_live now KD x (Nu c) l m = side_live now c None m tt
kept_by_live now _ x _ l m = All-nil (λ (y : SignedId). IsLive now y.form)

-- one more member
kept_next : (L : Logic) (ts : List Formula) (left new xs : List SignedId) (x : SignedId) (p : Parts SignedId) →
    parts_at ts p ≡ parts_of (signed_at ts x) → AddsAll left new (kept_by L x p) → set_of ts left ≡ kept trees L (set_of ts xs) →
    set_of ts new ≡ kept trees L (set_of ts (xs ++ x ∷ []))
kept_next L ts left new xs x p e adds h = λ i s. at_each s i
  where
    more_set : set_of ts (xs ++ x ∷ []) ≡ (λ s. set_of ts xs s || same_signed (signed_at ts x) s)
    more_set = λ i s. (set_of-append ts xs (x ∷ []) s ∙ ap (λ b. set_of ts xs s || b) (or-false (same_signed (signed_at ts x) s))) i

    of_x : (s : Signed) → set_of ts (kept_by L x p) s ≡ kept trees L (same_signed (signed_at ts x)) s
    of_x s =
        ap (λ (ds : List Signed). among ds s) (kept_by_at ts L x p)
        ∙ ap (λ (q : Parts Signed). among (kept_by L (signed_at ts x) q) s) e
        ∙ sym (kept_one L (signed_at ts x) s)

    at_each : (s : Signed) → set_of ts new s ≡ kept trees L (set_of ts (xs ++ x ∷ [])) s
    at_each s =
        set_of-added_all ts left new (kept_by L x p) adds s
        ∙ (λ i. h i s || of_x s i)
        ∙ sym (kept_both L (set_of ts xs) (same_signed (signed_at ts x)) s)
        ∙ ap (λ (X : SignedSet). kept trees L X s) (sym more_set)

-- the same at a step of a loop over a list
pub kept_more : (L : Logic) (now ts : List Formula) → Grows now ts → (left new items : List SignedId) (i : ℕ) (d : SignedId) (p : Parts SignedId) →
    i < length items → IsLive now (get_or items i d).form → ArePartsBelow (length now) p → parts_at now p ≡ parts_of (signed_at now (get_or items i d)) →
    AddsAll left new (kept_by L (get_or items i d) p) → set_of ts left ≡ kept trees L (set_of ts (take i items)) →
    set_of ts new ≡ kept trees L (set_of ts (take (i + 1) items))
kept_more L now ts g left new items i d p below live parts_live parts adds before =
    kept_next L ts left new (take i items) (get_or items i d) p
    (parts_grow now ts g p parts_live ∙ parts ∙ ap parts_of (sym (signed_grows now ts g (get_or items i d) live)))
    adds before
    ∙ ap (λ (xs : List SignedId). kept trees L (set_of ts xs)) (sym (take_more items i d below))
