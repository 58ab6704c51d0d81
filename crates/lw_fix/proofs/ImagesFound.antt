-- What images put in the place of formulas.
use Rattle.std.proofs.Common.{◌≡◌, ◌==◌, ℕ, suc, Bool, true, false, List, [], ◌∷◌, Option, Some, None, Result, if◌then◌else◌, refl, sym, ap, subst, ◌∙◌, arith, get_or}
use Rattle.std.specs.Bool.{Decides}
use Rattle.std.specs.Result.{IfOk}
use Rattle.std.proofs.lemmas.Bool.{false≢true}
use Rattle.std.proofs.lemmas.Bool.Decides.{Decides-eqb}
use Rattle.lw_formula.specs.Formula.{Formula, falsum, neg, conj, disj, impl, equi, same_formula}
use Rattle.lw_formula.proofs.SameFormulas.{same_formula-Decides}
use Rattle.lw_pool.specs.declared.id.FormId.{FormId}
use Rattle.lw_pool.specs.Region.{tree_at, IsLive, IsAt, AreIdsExact, Grows}
use Rattle.lw_fix.specs.declared.image.Image.{Image}
use Rattle.lw_fix.specs.Outermost.{at_outermost}
use Rattle.lw_fix.specs.Private.Images.{AreImagesLive, image_at, image_in, image_in-grows}

abbrev pub or_self : Option FormId → FormId → FormId
or_self None at = at
or_self (Some by) at = by

-- the image that is found is that of the formula
pub image_at-right : (ts : List Formula) → AreIdsExact ts → (images : List Image) → AreImagesLive ts images → (at : FormId) → IsLive ts at →
    IsAt ts (image_in ts images (tree_at ts at)) (or_self (image_at images at) at)
image_at-right ts x [] live at v = (v, refl)
image_at-right ts x (i ∷ images) live at v =
    by_tests (i.of.0 == at.0) (same_formula (tree_at ts at) (tree_at ts i.of)) (Decides-eqb i.of.0 at.0) (same_formula-Decides (tree_at ts at) (tree_at ts i.of))
    (image_at-right ts x images (λ k d l. live (suc k) d (omega arith)) at v)
  where
    own : IsLive ts i.of
    own = (live 0 i (omega arith)).0

    by_tests : (s t : Bool) → Decides s (i.of.0 ≡ at.0) → Decides t (tree_at ts at ≡ tree_at ts i.of) →
        IsAt ts (image_in ts images (tree_at ts at)) (or_self (image_at images at) at) →
        IsAt ts (if t then tree_at ts i.by else image_in ts images (tree_at ts at)) (or_self (if s then Some i.by else image_at images at) at)
    by_tests true true d e rest = ((live 0 i (omega arith)).1, refl)
    by_tests true false d e rest = absurd (false≢true (e.1 (ap (λ (k : ℕ). get_or ts k falsum) (sym (d.0 refl)))))
    by_tests false true d e rest = absurd (false≢true (d.1 (sym (ap (λ (k : FormId). k.0) (x at i.of v own (e.0 refl))))))
    by_tests false false d e rest = rest

-- the connectives above the images, as the pool grows
grown : (old new : List Formula) (images : List Image) (at : FormId) (a : Formula) → Grows old new → AreImagesLive old images → tree_at old at ≡ a →
    at_outermost (image_in old images) a ≡ at_outermost (image_in new images) (tree_at old at)
grown old new images at a g live is = (λ j. at_outermost (λ m. image_in-grows old new images g live m j) a) ∙ ap (at_outermost (image_in new images)) (sym is)

pub put-neg : {E : Type 0} (old new : List Formula) (images : List Image) (at a da : FormId) (r : Result FormId E) → Grows old new → AreImagesLive old images →
    tree_at old at ≡ neg (tree_at old a) → IsAt old (at_outermost (image_in old images) (tree_at old a)) da →
    IfOk r (IsAt new (neg (tree_at old da))) → IfOk r (IsAt new (at_outermost (image_in new images) (tree_at old at)))
put-neg old new images at a da r g live is x made =
    subst (λ t. IfOk r (IsAt new t)) (ap neg x.1 ∙ grown old new images at (neg (tree_at old a)) g live is) made

pub put-conj : {E : Type 0} (old new : List Formula) (images : List Image) (at a b da db : FormId) (r : Result FormId E) → Grows old new → AreImagesLive old images →
    tree_at old at ≡ conj (tree_at old a) (tree_at old b) → IsAt old (at_outermost (image_in old images) (tree_at old a)) da →
    IsAt old (at_outermost (image_in old images) (tree_at old b)) db →
    IfOk r (IsAt new (conj (tree_at old da) (tree_at old db))) → IfOk r (IsAt new (at_outermost (image_in new images) (tree_at old at)))
put-conj old new images at a b da db r g live is x y made =
    subst (λ t. IfOk r (IsAt new t)) ((λ i. conj (x.1 i) (y.1 i)) ∙ grown old new images at (conj (tree_at old a) (tree_at old b)) g live is) made

pub put-disj : {E : Type 0} (old new : List Formula) (images : List Image) (at a b da db : FormId) (r : Result FormId E) → Grows old new → AreImagesLive old images →
    tree_at old at ≡ disj (tree_at old a) (tree_at old b) → IsAt old (at_outermost (image_in old images) (tree_at old a)) da →
    IsAt old (at_outermost (image_in old images) (tree_at old b)) db →
    IfOk r (IsAt new (disj (tree_at old da) (tree_at old db))) → IfOk r (IsAt new (at_outermost (image_in new images) (tree_at old at)))
put-disj old new images at a b da db r g live is x y made =
    subst (λ t. IfOk r (IsAt new t)) ((λ i. disj (x.1 i) (y.1 i)) ∙ grown old new images at (disj (tree_at old a) (tree_at old b)) g live is) made

pub put-impl : {E : Type 0} (old new : List Formula) (images : List Image) (at a b da db : FormId) (r : Result FormId E) → Grows old new → AreImagesLive old images →
    tree_at old at ≡ impl (tree_at old a) (tree_at old b) → IsAt old (at_outermost (image_in old images) (tree_at old a)) da →
    IsAt old (at_outermost (image_in old images) (tree_at old b)) db →
    IfOk r (IsAt new (impl (tree_at old da) (tree_at old db))) → IfOk r (IsAt new (at_outermost (image_in new images) (tree_at old at)))
put-impl old new images at a b da db r g live is x y made =
    subst (λ t. IfOk r (IsAt new t)) ((λ i. impl (x.1 i) (y.1 i)) ∙ grown old new images at (impl (tree_at old a) (tree_at old b)) g live is) made

pub put-equi : {E : Type 0} (old new : List Formula) (images : List Image) (at a b da db : FormId) (r : Result FormId E) → Grows old new → AreImagesLive old images →
    tree_at old at ≡ equi (tree_at old a) (tree_at old b) → IsAt old (at_outermost (image_in old images) (tree_at old a)) da →
    IsAt old (at_outermost (image_in old images) (tree_at old b)) db →
    IfOk r (IsAt new (equi (tree_at old da) (tree_at old db))) → IfOk r (IsAt new (at_outermost (image_in new images) (tree_at old at)))
put-equi old new images at a b da db r g live is x y made =
    subst (λ t. IfOk r (IsAt new t)) ((λ i. equi (x.1 i) (y.1 i)) ∙ grown old new images at (equi (tree_at old a) (tree_at old b)) g live is) made
