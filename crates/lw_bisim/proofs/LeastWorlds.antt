-- The least world of each class, and how many classes there are.
use Rattle.std.proofs.Common.{◌≡◌, ℕ, ◌<◌, ◌≤◌, List, length, inl, inr, ap, subst, sym, ◌∙◌, arith}
use Rattle.std.proofs.lemmas.Bool.{cases_lt}
use Rattle.lw_bisim.specs.Quotient.{place_of, IsLeastOf, AreNumbered}
use Rattle.lw_bisim.proofs.Injections.{TakesApart, le-from_injection, onto}

-- a number that is the least world of class c, where c is a class
least_of : (places : List ℕ) (count : ℕ) → AreNumbered places count → (c : ℕ) → (v : ℕ) × (c < count → IsLeastOf places c v)
least_of places count h c = elim (cases_lt c count) [
  | inl l ↦ let t = h.taken c l in (t.0, λ m. t.1)
  | inr ge ↦ (0, λ l. let bad : ⊥ = omega arith in absurd bad)
]

pub least : (places : List ℕ) (count : ℕ) → AreNumbered places count → ℕ → ℕ
least places count h c = (least_of places count h c).0

pub least-IsLeastOf : (places : List ℕ) (count : ℕ) (h : AreNumbered places count) (c : ℕ) → c < count → IsLeastOf places c (least places count h c)
unfolding least
least-IsLeastOf places count h c l = (least_of places count h c).1 l

-- each place is a class
pub place_below : (places : List ℕ) (count : ℕ) → AreNumbered places count → (v : ℕ) → v < length places → place_of places v < count
place_below places count h v l = h.below v 0 l

-- there are no more classes than worlds
pub count_within : (places : List ℕ) (count : ℕ) → AreNumbered places count → count ≤ length places
count_within places count h =
    le-from_injection (least places count h) count (length places)
    (λ c l. (least-IsLeastOf places count h c l).within)
    (λ c d l m e. sym (least-IsLeastOf places count h c l).place ∙ ap (place_of places) e ∙ (least-IsLeastOf places count h d m).place)

-- worlds of one class of the finer places are of one class of the others
abbrev pub AreFiner : List ℕ → List ℕ → Type 0
AreFiner fine places = (v u : ℕ) → v < length places → u < length places → place_of fine v ≡ place_of fine u → place_of places v ≡ place_of places u

module _ (places fine : List ℕ) (count more : ℕ) (h : AreNumbered places count) (k : AreNumbered fine more) (same : length fine ≡ length places) (finer : AreFiner fine places) where
  -- the finer class of the least world of a class
  inner : ℕ → ℕ
  inner c = place_of fine (least places count h c)

  inner_within : (c : ℕ) → c < count → inner c < more
  unfolding inner
  inner_within c l =
      let w : least places count h c < length places = (least-IsLeastOf places count h c l).within in
      place_below fine more k (least places count h c) (omega arith)

  -- the class of a world whose finer class is an inner one
  inner_class : (c v : ℕ) → c < count → v < length places → inner c ≡ place_of fine v → place_of places v ≡ c
  unfolding inner
  inner_class c v l m e =
      sym (finer (least places count h c) v (least-IsLeastOf places count h c l).within m e) ∙ (least-IsLeastOf places count h c l).place

  inner_apart : TakesApart inner count
  unfolding inner
  inner_apart c d l m e =
      sym (inner_class c (least places count h d) l (least-IsLeastOf places count h d m).within e) ∙ (least-IsLeastOf places count h d m).place

  -- there are as many finer classes or more
  pub count_grows : count ≤ more
  count_grows = le-from_injection inner count more inner_within inner_apart

  -- and where there are as many they are the same classes
  pub same_classes : more ≡ count → (v u : ℕ) → v < length places → u < length places → place_of places v ≡ place_of places u → place_of fine v ≡ place_of fine u
  same_classes e v u l m at =
      let within : (c : ℕ) → c < count → inner c < count = λ c b. subst (λ n. inner c < n) e (inner_within c b) in
      let below : (w : ℕ) → w < length places → place_of fine w < count = λ w b. let a : place_of fine w < more = place_below fine more k w (omega arith) in omega arith in
      let c = onto inner count within inner_apart (place_of fine v) (below v l) in
      let d = onto inner count within inner_apart (place_of fine u) (below u m) in
      let one : c.0 ≡ d.0 = sym (inner_class c.0 v c.1 l c.2) ∙ at ∙ inner_class d.0 u d.1 m d.2 in
      sym c.2 ∙ ap inner one ∙ d.2
