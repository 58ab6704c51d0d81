-- The fixed point of a formula, built of the images of its boxes.
use Rattle.std.proofs.Common.{◌≡◌, ℕ, ◌+◌, ◌<◌, ◌⊎◌, inl, inr, ⊎_elim, Bool, true, false, List, [], ◌∷◌, ◌++◌, length, map, take, if◌then◌else◌, get_or, refl, sym, ap, subst, ◌∙◌, arith}
use Rattle.std.specs.Bool.{Decides}
use Rattle.std.specs.List.{All, Contains}
use Rattle.std.proofs.lemmas.Bool.{false≢true}
use Rattle.std.proofs.lemmas.List.{append_assoc, map-append, take_all, take_more}
use Rattle.std.proofs.lemmas.List.Elements.{All-append, All-contains, Contains-append_cases, Contains-append_right}
use Rattle.lw_formula.specs.Formula.{Formula}
use Rattle.lw_formula.specs.Variables.{Occurs, replace}
use Rattle.lw_pool.specs.declared.id.FormId.{FormId}
use Rattle.lw_pool.specs.Region.{tree_at, IsLive, IsAt, Grows}
use Rattle.lw_pool.proofs.RegionGrowth.{IsAt-grows, Grows-trans}
use Rattle.lw_fix.specs.declared.image.Image.{Image}
use Rattle.lw_fix.specs.Outermost.{IsOutermost, has_letter, at_outermost}
use Rattle.lw_fix.specs.FixedPoint.{default_of, without, fix}
use Rattle.lw_fix.specs.Private.Images.{AreImagesLive, IsImage, image_in}
use Rattle.lw_fix.specs.Private.Solved.{AreBoxes}
use Rattle.lw_fix.proofs.OutermostFormulas.{has_letter-Decides, at_equal, at_twice}
use Rattle.lw_fix.proofs.OutermostFound.{Contains-map, Contains-map_cases}
use Rattle.lw_fix.proofs.ConstructedFormulas.{fix-unfolded, at_default}
use Rattle.lw_fix.proofs.BoxImages.{AreImages-grows, AreImages-push, AreImages-live, front, AreBoxes-grows, image_in-cases, at_own, rest_of, rest_of-grows, rest_of-more}

-- what stands for m in the formula
abbrev pub piece : List ℕ → Formula → Formula → Formula
piece p a m = replace p (fix p (without m a)) m

-- behind those that are taken are the images of the first k that are left
pub record AreBuilt (ts : List Formula) (p : List ℕ) (a : Formula) (taken left : List Image) (k : ℕ) (images : List Image) : Type 0 where
  pub made : List Image
  pub is : images ≡ taken ++ made
  pub right : All (IsImage (piece p a) ts) made
  pub of : map (λ i. i.of) made ≡ map (λ i. i.of) (take k left)

pub built-grows : (old new : List Formula) (p : List ℕ) (a : Formula) (taken left : List Image) (k : ℕ) (images : List Image) → Grows old new →
    AreBuilt old p a taken left k images → AreBuilt new p a taken left k images
built-grows old new p a taken left k images g h = record { made = h.made; is = h.is; right = AreImages-grows (piece p a) old new h.made g h.right; of = h.of }

pub built-live : (old now : List Formula) (p : List ℕ) (a b : Formula) (taken left : List Image) (k : ℕ) (images : List Image) → Grows old now → AreBoxes old p a (taken ++ left) →
    AreBuilt now p b taken left k images → AreImagesLive now images
built-live old now p a b taken left k images g boxes h =
    subst (AreImagesLive now) (sym h.is)
    (All-append (λ i. IsLive now i.of × IsLive now i.by) taken h.made
    (AreImages-live default_of now taken (AreImages-grows default_of old now taken g (front default_of old taken left boxes.right)))
    (AreImages-live (piece p b) now h.made h.right))

pub built-step : (ts : List Formula) (p : List ℕ) (a : Formula) (taken left : List Image) (k : ℕ) (images : List Image) (one i : Image) → AreBuilt ts p a taken left k images →
    IsImage (piece p a) ts i → k < length left → one ≡ get_or left k one → i.of ≡ one.of → AreBuilt ts p a taken left (k + 1) (images ++ i ∷ [])
built-step ts p a taken left k images one i h own l e same = record {
  made = h.made ++ i ∷ [];
  is = ap (λ (xs : List Image). xs ++ i ∷ []) h.is ∙ append_assoc taken h.made (i ∷ []);
  right = AreImages-push (piece p a) ts h.made i h.right own;
  of =
      map-append (λ j. j.of) h.made (i ∷ [])
      ∙ (λ n. h.of n ++ same n ∷ [])
      ∙ sym (map-append (λ j. j.of) (take k left) (one ∷ []))
      ∙ ap (λ (x : Image). map (λ j. j.of) (take k left ++ x ∷ [])) e
      ∙ ap (map (λ j. j.of)) (sym (take_more left k one l));
}

-- with all images the formula is the fixed point
built-fix : (ts : List Formula) (p : List ℕ) (a : Formula) (taken left images : List Image) → AreBoxes ts p a (taken ++ left) →
    AreBuilt ts p (rest_of ts taken a) taken left (length left) images → at_outermost (image_in ts images) a ≡ fix p (rest_of ts taken a)
built-fix ts p a taken left images boxes h =
    ap (λ (is : List Image). at_outermost (image_in ts is) a) h.is
    ∙ at_equal (image_in ts (taken ++ h.made)) (λ x. at_outermost f (image_in ts taken x)) a
    (λ x o. by_cases x o (image_in-cases default_of ts taken h.made x (front default_of ts taken left boxes.right)))
    ∙ sym (at_twice f (image_in ts taken) a)
    ∙ sym (fix-unfolded p rest)
  where
    rest : Formula
    rest = rest_of ts taken a

    f : Formula → Formula
    f = λ m. if has_letter p m then piece p rest m else m

    all : map (λ (i : Image). i.of) h.made ≡ map (λ (i : Image). i.of) left
    all = h.of ∙ ap (map (λ i. i.of)) (take_all (length left) left (omega arith))

    is_made : (i : Image) → Contains left i → (j : Image) × Contains h.made j × (j.of ≡ i.of)
    is_made i c = Contains-map_cases (λ j. j.of) h.made i.of (subst (λ l. Contains l i.of) (sym all) (Contains-map (λ j. j.of) left i c))

    is_left : (i : Image) → Contains h.made i → (j : Image) × Contains left j × (j.of ≡ i.of)
    is_left i c = Contains-map_cases (λ j. j.of) left i.of (subst (λ l. Contains l i.of) all (Contains-map (λ j. j.of) h.made i c))

    by_test : (x : Formula) → IsOutermost x a → ((i : Image) → Contains taken i → x ≡ tree_at ts i.of → ⊥) → (t : Bool) → Decides t (Occurs p x) →
        (((i : Image) × Contains h.made i × (x ≡ tree_at ts i.of)) × (image_in ts h.made x ≡ piece p rest x) × (image_in ts (h.made ++ []) x ≡ piece p rest x)) ⊎
        (((i : Image) → Contains h.made i → x ≡ tree_at ts i.of → ⊥) × (image_in ts h.made x ≡ x) × (image_in ts (h.made ++ []) x ≡ x)) →
        image_in ts h.made x ≡ (if t then piece p rest x else x)
    by_test x o free true d (inl some) = some.1
    by_test x o free true d (inr none) =
        let i = boxes.each x o (d.0 refl) in
        absurd (⊎_elim (λ c. free i.0 c i.2) (λ c. let j = is_made i.0 c in none.0 j.0 j.1 (i.2 ∙ ap (tree_at ts) (sym j.2))) (Contains-append_cases taken left i.0 i.1))
    by_test x o free false d (inl some) =
        let j = is_left some.0.0 some.0.1 in
        absurd (false≢true (d.1 (subst (Occurs p) (ap (tree_at ts) j.2 ∙ sym some.0.2) (boxes.sound j.0 (Contains-append_right taken left j.0 j.1)))))
    by_test x o free false d (inr none) = none.1

    by_cases : (x : Formula) → IsOutermost x a →
        (((i : Image) × Contains taken i × (x ≡ tree_at ts i.of)) × (image_in ts taken x ≡ default_of x) × (image_in ts (taken ++ h.made) x ≡ default_of x)) ⊎
        (((i : Image) → Contains taken i → x ≡ tree_at ts i.of → ⊥) × (image_in ts taken x ≡ x) × (image_in ts (taken ++ h.made) x ≡ image_in ts h.made x)) →
        image_in ts (taken ++ h.made) x ≡ at_outermost f (image_in ts taken x)
    by_cases x o (inl some) = some.2 ∙ sym (at_default f a x o) ∙ ap (at_outermost f) (sym some.1)
    by_cases x o (inr none) =
        none.2
        ∙ by_test x o none.0 (has_letter p x) (has_letter-Decides p x) (image_in-cases (piece p rest) ts h.made [] x h.right)
        ∙ sym (at_own f a x o)
        ∙ ap (at_outermost f) (sym none.1)

-- the image of one that is left, made in two calls
pub image-made : (old now mid new : List Formula) (p : List ℕ) (id : FormId) (taken left more : List Image) (one : Image) (point by : FormId) →
    Grows old now → Grows now mid → Grows mid new → IsLive old id → AreBoxes old p (tree_at old id) (taken ++ left) → Contains left one → more ≡ taken ++ one ∷ [] →
    IsAt mid (fix p (rest_of now more (tree_at now id))) point → IsAt new (replace p (tree_at mid point) (tree_at mid one.of)) by →
    IsImage (piece p (rest_of old taken (tree_at old id))) new (record { of = one.of; by = by })
image-made old now mid new p id taken left more one point by g h k v boxes there e solved made =
    let own = All-contains (IsImage default_of old) (taken ++ left) one boxes.right (Contains-append_right taken left one there) in
    let first = front default_of old taken left boxes.right in
    let v0 : IsLive old one.of = own.0 in
    let v1 : IsLive now one.of = omega (arith, v0, g.longer) in
    let v2 : IsLive mid one.of = omega (arith, v1, h.longer) in
    let same : tree_at now one.of ≡ tree_at mid one.of = sym (h.same one.of v1) in
    let here : IsImage default_of now one =
    (v1, subst (λ t. IsAt now (default_of t) one.by) (sym (g.same one.of v0)) (IsAt-grows old now (default_of (tree_at old one.of)) one.by g own.1)) in
    let is : tree_at mid point ≡ fix p (without (tree_at mid one.of) (rest_of old taken (tree_at old id))) =
    solved.1
    ∙ ap (λ (l : List Image). fix p (rest_of now l (tree_at now id))) e
    ∙ ap (fix p) (rest_of-more now (tree_at now id) taken one (AreImages-grows default_of old now taken g first) here)
    ∙ (λ n. fix p (without (same n) (rest_of now taken (g.same id v n))))
    ∙ ap (λ (t : Formula). fix p (without (tree_at mid one.of) t)) (sym (rest_of-grows old now taken (tree_at old id) g first)) in
    (omega (arith, v2, k.longer), (made.0, made.1 ∙ ap (λ (t : Formula). replace p t (tree_at mid one.of)) is ∙ ap (piece p (rest_of old taken (tree_at old id))) (sym (k.same one.of v2))))

-- the fixed point, put together of all images
pub point-made : (old now new : List Formula) (p : List ℕ) (id : FormId) (taken left images : List Image) (point : FormId) → Grows old now → Grows now new → IsLive old id →
    AreBoxes old p (tree_at old id) (taken ++ left) → AreBuilt now p (rest_of old taken (tree_at old id)) taken left (length left) images →
    IsAt new (at_outermost (image_in new images) (tree_at now id)) point → IsAt new (fix p (rest_of old taken (tree_at old id))) point
point-made old now new p id taken left images point g h v boxes built made =
    let a = tree_at old id in
    let up = Grows-trans old now new g h in
    let same = rest_of-grows old new taken a up (front default_of old taken left boxes.right) in (
      made.0,
      made.1
          ∙ ap (at_outermost (image_in new images)) (g.same id v)
          ∙ built-fix new p a taken left images (AreBoxes-grows old new p a (taken ++ left) up boxes)
          (subst (λ (t : Formula). AreBuilt new p t taken left (length left) images) same
          (built-grows now new p (rest_of old taken a) taken left (length left) images h built))
          ∙ ap (fix p) (sym same),
    )
