-- The boxes of a formula with their defaults, and the formula with the defaults of those that are taken, as the pool grows.
use Rattle.std.proofs.Common.{◌≡◌, ℕ, ◌<◌, ◌⊎◌, inl, inr, ⊎_elim, Bool, true, false, List, [], ◌∷◌, ◌++◌, length, map, if◌then◌else◌, get_or, refl, sym, ap, subst, ◌∙◌, arith}
use Rattle.std.specs.Bool.{Decides}
use Rattle.std.specs.List.{All, Contains, remove}
use Rattle.std.proofs.lemmas.Bool.{false≢true}
use Rattle.std.proofs.lemmas.List.{get_or_default}
use Rattle.std.proofs.lemmas.List.Elements.{All-append, All-contains, Contains-append_left, Contains-append_right, Contains-get_or}
use Rattle.std.proofs.lemmas.List.Sorted.{Contains-permutation, IsPermutation-more, IsPermutation-refl, IsPermutation-sym}
use Rattle.std.specs.List.Sorted.{IsPermutation}
use Rattle.lw_formula.specs.Formula.{Formula, same_formula}
use Rattle.lw_formula.specs.Variables.{Occurs}
use Rattle.lw_formula.proofs.ListMembers.{All-members, Contains-nil, Contains-head, Contains-tail, Contains-cons_cases}
use Rattle.lw_formula.proofs.SameFormulas.{same_formula-Decides}
use Rattle.lw_pool.specs.declared.id.FormId.{FormId}
use Rattle.lw_pool.specs.Region.{tree_at, IsLive, IsAt, Grows}
use Rattle.lw_pool.proofs.RegionGrowth.{IsAt-grows}
use Rattle.lw_fix.specs.declared.image.Image.{Image}
use Rattle.lw_fix.specs.Outermost.{IsOutermost, at_outermost}
use Rattle.lw_fix.specs.FixedPoint.{default_of, without}
use Rattle.lw_fix.specs.Private.OutermostIds.{AreOutermost}
use Rattle.lw_fix.specs.Private.Images.{AreImagesLive, IsImage, image_in, image_in-grows}
use Rattle.lw_fix.specs.Private.Solved.{AreBoxes}
use Rattle.lw_fix.proofs.OutermostFormulas.{outermost_is, at_equal, at_twice}
use Rattle.lw_fix.proofs.OutermostFound.{Contains-map, Contains-map_cases}
use Rattle.lw_fix.proofs.ConstructedFormulas.{at_default}

pub AreImages-grows : (f : Formula → Formula) (old new : List Formula) (images : List Image) → Grows old new → All (IsImage f old) images → All (IsImage f new) images
AreImages-grows f old new images g h =
    λ k d l.
    let at = h k d l in
    let i = get_or images k d in
    let v : IsLive old i.of = at.0 in
    (omega (arith, v, g.longer), subst (λ t. IsAt new (f t) i.by) (sym (g.same i.of v)) (IsAt-grows old new (f (tree_at old i.of)) i.by g at.1))

pub AreImages-push : (f : Formula → Formula) (ts : List Formula) (images : List Image) (i : Image) → All (IsImage f ts) images → IsImage f ts i → All (IsImage f ts) (images ++ i ∷ [])
AreImages-push f ts images i h own =
    All-append (IsImage f ts) images (i ∷ []) h
    (All-members (IsImage f ts) (i ∷ []) (λ j c. ⊎_elim (λ e. subst (IsImage f ts) e own) (λ none. absurd (Contains-nil j none)) (Contains-cons_cases i [] j c)))

pub AreImages-live : (f : Formula → Formula) (ts : List Formula) (images : List Image) → All (IsImage f ts) images → AreImagesLive ts images
AreImages-live f ts images h = λ k d l. ((h k d l).0, (h k d l).1.0)

pub front : (f : Formula → Formula) (ts : List Formula) (images more : List Image) → All (IsImage f ts) (images ++ more) → All (IsImage f ts) images
front f ts images more h = All-members (IsImage f ts) images (λ i c. All-contains (IsImage f ts) (images ++ more) i h (Contains-append_left images more i c))

-- the boxes of a formula
pub AreBoxes-grows : (old new : List Formula) (p : List ℕ) (a : Formula) (images : List Image) → Grows old new → AreBoxes old p a images → AreBoxes new p a images
AreBoxes-grows old new p a images g h = record {
  right = AreImages-grows default_of old new images g h.right;
  sound = λ i c. subst (Occurs p) (sym (g.same i.of (live i c))) (h.sound i c);
  each = λ m o occurs. let t = h.each m o occurs in (t.0, t.1, t.2 ∙ sym (g.same t.0.of (live t.0 t.1)));
}
  where
    live : (i : Image) → Contains images i → IsLive old i.of
    live i c = (All-contains (IsImage default_of old) images i h.right c).0

-- the boxes that were found, with their defaults
pub boxes-found : (old ts : List Formula) (p : List ℕ) (a : Formula) (ids : List FormId) (images : List Image) → Grows old ts → AreOutermost old p a ids →
    All (IsImage default_of ts) images → map (λ i. i.of) images ≡ ids → AreBoxes ts p a images
boxes-found old ts p a ids images g found h of = record {
  right = h;
  sound = λ i c.
      let s = found.sound i.of (subst (λ l. Contains l i.of) of (Contains-map (λ j. j.of) images i c)) in
      subst (Occurs p) (sym (g.same i.of s.0)) s.2;
  each = λ m o occurs.
      let t = found.each m o occurs in
      let i = Contains-map_cases (λ j. j.of) images t.0 (subst (λ l. Contains l t.0) (sym of) t.1) in
      (i.0, i.1, sym t.2 ∙ sym (g.same t.0 (found.sound t.0 t.1).0) ∙ ap (tree_at ts) (sym i.2));
}

-- one of those that are left is taken
pub AreBoxes-taken : (ts : List Formula) (p : List ℕ) (a : Formula) (taken left : List Image) (at : ℕ) (one : Image) → AreBoxes ts p a (taken ++ left) → at < length left →
    one ≡ get_or left at one → AreBoxes ts p a ((taken ++ one ∷ []) ++ remove left at)
AreBoxes-taken ts p a taken left at one h l e = record {
  right = All-members (IsImage default_of ts) now (λ i c. All-contains (IsImage default_of ts) (taken ++ left) i h.right (back i c));
  sound = λ i c. h.sound i (back i c);
  each = λ m o occurs. let t = h.each m o occurs in (t.0, Contains-permutation (taken ++ left) now t.0 same t.1, t.2);
}
  where
    now : List Image
    now = (taken ++ one ∷ []) ++ remove left at

    same : IsPermutation (taken ++ left) now
    same = IsPermutation-more (taken ++ left) taken left at one l e (IsPermutation-refl (taken ++ left))

    back : (i : Image) → Contains now i → Contains (taken ++ left) i
    back i c = Contains-permutation now (taken ++ left) i (IsPermutation-sym (taken ++ left) now same) c

-- so it is as the pool grows
pub boxes-taken : (old now : List Formula) (p : List ℕ) (id : FormId) (taken left more fewer : List Image) (at : ℕ) (d : Image) → Grows old now → IsLive old id →
    AreBoxes old p (tree_at old id) (taken ++ left) → at < length left → more ≡ taken ++ get_or left at d ∷ [] → fewer ≡ remove left at → AreBoxes now p (tree_at now id) (more ++ fewer)
boxes-taken old now p id taken left more fewer at d g v boxes l m f =
    let one = get_or left at d in
    subst (AreBoxes now p (tree_at now id)) (λ n. sym m n ++ sym f n)
    (AreBoxes-grows old now p (tree_at now id) ((taken ++ one ∷ []) ++ remove left at) g
    (subst (λ (t : Formula). AreBoxes old p t ((taken ++ one ∷ []) ++ remove left at)) (sym (g.same id v))
    (AreBoxes-taken old p (tree_at old id) taken left at one boxes l (get_or_default left at d one l))))

pub left-live : (ts : List Formula) (p : List ℕ) (a : Formula) (taken left : List Image) (at : ℕ) (d : Image) → AreBoxes ts p a (taken ++ left) → at < length left → IsLive ts (get_or left at d).of
left-live ts p a taken left at d boxes l =
    (All-contains (IsImage default_of ts) (taken ++ left) (get_or left at d) boxes.right
    (Contains-append_right taken left (get_or left at d) (Contains-get_or left at d l))).0

-- the formula has one of the images and that stands for it, or none and what stands for it is another's, or itself
pub image_in-cases : (f : Formula → Formula) (ts : List Formula) (images more : List Image) (m : Formula) → All (IsImage f ts) images →
    (((i : Image) × Contains images i × (m ≡ tree_at ts i.of)) × (image_in ts images m ≡ f m) × (image_in ts (images ++ more) m ≡ f m)) ⊎
    (((i : Image) → Contains images i → m ≡ tree_at ts i.of → ⊥) × (image_in ts images m ≡ m) × (image_in ts (images ++ more) m ≡ image_in ts more m))
image_in-cases f ts [] more m h = inr (λ i c. absurd (Contains-nil i c), refl, refl)
image_in-cases f ts (i ∷ images) more m h =
    by_test (same_formula m (tree_at ts i.of)) (same_formula-Decides m (tree_at ts i.of))
    (image_in-cases f ts images more m (All-members (IsImage f ts) images (λ j c. All-contains (IsImage f ts) (i ∷ images) j h (Contains-tail i images j c))))
  where
    by_test : (t : Bool) → Decides t (m ≡ tree_at ts i.of) →
        (((j : Image) × Contains images j × (m ≡ tree_at ts j.of)) × (image_in ts images m ≡ f m) × (image_in ts (images ++ more) m ≡ f m)) ⊎
        (((j : Image) → Contains images j → m ≡ tree_at ts j.of → ⊥) × (image_in ts images m ≡ m) × (image_in ts (images ++ more) m ≡ image_in ts more m)) →
        (((j : Image) × Contains (i ∷ images) j × (m ≡ tree_at ts j.of)) × ((if t then tree_at ts i.by else image_in ts images m) ≡ f m) ×
        ((if t then tree_at ts i.by else image_in ts (images ++ more) m) ≡ f m)) ⊎
        (((j : Image) → Contains (i ∷ images) j → m ≡ tree_at ts j.of → ⊥) × ((if t then tree_at ts i.by else image_in ts images m) ≡ m) ×
        ((if t then tree_at ts i.by else image_in ts (images ++ more) m) ≡ image_in ts more m))
    by_test true d rest =
        let own : tree_at ts i.by ≡ f m = (All-contains (IsImage f ts) (i ∷ images) i h (Contains-head i images)).1.1 ∙ ap f (sym (d.0 refl)) in
        inl ((i, Contains-head i images, d.0 refl), own, own)
    by_test false d (inl some) = inl ((some.0.0, Contains-tail i images some.0.0 some.0.1, some.0.2), some.1, some.2)
    by_test false d (inr none) =
        inr (λ j c e. ⊎_elim (λ own. false≢true (d.1 (e ∙ ap (λ (x : Image). tree_at ts x.of) (sym own)))) (λ r. none.0 j r e) (Contains-cons_cases i images j c), none.1, none.2)

-- a modal formula is its own outermost modal subformula
pub at_own : (f : Formula → Formula) (a m : Formula) → IsOutermost m a → at_outermost f m ≡ f m
at_own f a m o = outermost_is (λ x. at_outermost f x ≡ f x) a m o (λ c. refl) (λ c. refl)

-- the formula with the defaults of those that are taken
abbrev pub rest_of : List Formula → List Image → Formula → Formula
rest_of ts taken a = at_outermost (image_in ts taken) a

pub rest_of-grows : (old new : List Formula) (taken : List Image) (a : Formula) → Grows old new → All (IsImage default_of old) taken → rest_of old taken a ≡ rest_of new taken a
rest_of-grows old new taken a g h = λ j. at_outermost (λ m. image_in-grows old new taken g (AreImages-live default_of old taken h) m j) a

-- what m is taken to be, where it is the only one taken
abbrev defaulted : Formula → Formula → Formula
defaulted m x = if same_formula x m then default_of x else x

-- with one more taken it is without that one
pub rest_of-more : (ts : List Formula) (a : Formula) (taken : List Image) (one : Image) → All (IsImage default_of ts) taken → IsImage default_of ts one →
    rest_of ts (taken ++ one ∷ []) a ≡ without (tree_at ts one.of) (rest_of ts taken a)
rest_of-more ts a taken one h own =
    at_equal (image_in ts (taken ++ one ∷ [])) (λ x. at_outermost f (image_in ts taken x)) a (λ x o. by_cases x o (image_in-cases default_of ts taken (one ∷ []) x h))
    ∙ sym (at_twice f (image_in ts taken) a)
  where
    f : Formula → Formula
    f = defaulted (tree_at ts one.of)

    by_test : (x : Formula) (t : Bool) → Decides t (x ≡ tree_at ts one.of) → (if t then tree_at ts one.by else x) ≡ (if t then default_of x else x)
    by_test x true d = own.1.1 ∙ ap default_of (sym (d.0 refl))
    by_test x false d = refl

    by_cases : (x : Formula) → IsOutermost x a →
        (((i : Image) × Contains taken i × (x ≡ tree_at ts i.of)) × (image_in ts taken x ≡ default_of x) × (image_in ts (taken ++ one ∷ []) x ≡ default_of x)) ⊎
        (((i : Image) → Contains taken i → x ≡ tree_at ts i.of → ⊥) × (image_in ts taken x ≡ x) × (image_in ts (taken ++ one ∷ []) x ≡ image_in ts (one ∷ []) x)) →
        image_in ts (taken ++ one ∷ []) x ≡ at_outermost f (image_in ts taken x)
    by_cases x o (inl some) = some.2 ∙ sym (at_default f a x o) ∙ ap (at_outermost f) (sym some.1)
    by_cases x o (inr none) =
        none.2 ∙ by_test x (same_formula x (tree_at ts one.of)) (same_formula-Decides x (tree_at ts one.of)) ∙ sym (at_own f a x o) ∙ ap (at_outermost f) (sym none.1)
