-- Formulas and what stands in their place, as the pool grows.
use Rattle.std.specs.Prelude.{◌==◌, Option, Some, None}
use Rattle.std.specs.List.{All}
use Rattle.std.proofs.Common.{◌≡◌, suc, List, [], ◌∷◌, if◌then◌else◌, refl, sym, ◌∙◌, arith}
use Rattle.lw_formula.specs.Formula.{Formula, same_formula}
use Rattle.lw_pool.specs.declared.id.FormId.{FormId}
use Rattle.lw_pool.specs.Region.{tree_at, IsLive, IsAt, Grows}
use Rattle.lw_pool.proofs.RegionGrowth.{IsAt-grows}
use Rattle.lw_fix.specs.declared.image.Image.{Image}
use Rattle.lw_fix.specs.Outermost.{at_outermost}

-- the ids of the images, and of what they are the images of, are the list's
abbrev pub AreImagesLive : List Formula → List Image → Type 0
AreImagesLive ts images = All (λ i. IsLive ts i.of × IsLive ts i.by) images

-- the image is what f gives for its formula
abbrev pub IsImage : (Formula → Formula) → List Formula → Image → Type 0
IsImage f ts i = IsLive ts i.of × IsAt ts (f (tree_at ts i.of)) i.by

-- the first image of the id
abbrev pub image_at : List Image → FormId → Option FormId
image_at [] at = None
image_at (i ∷ images) at = if i.of.0 == at.0 then Some i.by else image_at images at

-- the first image of the formula, or itself
abbrev pub image_in : List Formula → List Image → Formula → Formula
image_in ts [] m = m
image_in ts (i ∷ images) m = if same_formula m (tree_at ts i.of) then tree_at ts i.by else image_in ts images m

pub AreImagesLive-grows : (old new : List Formula) (images : List Image) → Grows old new → AreImagesLive old images → AreImagesLive new images
AreImagesLive-grows old new images g live = λ k d l. (omega (arith, g.longer, (live k d l).0), omega (arith, g.longer, (live k d l).1))

pub image_in-grows : (old new : List Formula) (images : List Image) → Grows old new → AreImagesLive old images → (m : Formula) → image_in old images m ≡ image_in new images m
image_in-grows old new [] g live m = refl
image_in-grows old new (i ∷ images) g live m =
    λ j. if same_formula m (sym (g.same i.of (live 0 i (omega arith)).0) j) then sym (g.same i.by (live 0 i (omega arith)).1) j else
    image_in-grows old new images g (λ k d l. live (suc k) d (omega arith)) m j

pub IsAt-images : (old new : List Formula) (images : List Image) (a : Formula) (id : FormId) → Grows old new → AreImagesLive old images →
    IsAt old (at_outermost (image_in old images) a) id → IsAt new (at_outermost (image_in new images) a) id
IsAt-images old new images a id g live at =
    IsAt-grows old new (at_outermost (image_in new images) a) id g
    (at.0, at.1 ∙ (λ j. at_outermost (λ m. image_in-grows old new images g live m j) a))
