-- The keys by which worlds are put into classes in each round.
use Rattle.std.proofs.Common.{◌≡◌, ℕ, ◌<◌, zero, suc, Bool, true, ◌==◌, ◌&&◌, eqb, Bor, List, ◌↔◌, All, refl, subst, sym, ◌∙◌}
use Rattle.std.specs.Bool.{Decides}
use Rattle.std.specs.Ordering.{nat_cmp}
use Rattle.std.specs.Cmp.{nat_cmp_total}
use Rattle.std.specs.Cmp.Lexicographic.{slice_cmp, nat_list_cmp_total, pointwise, bytes_decides}
use Rattle.std.proofs.lemmas.Bool.Decides.{Decides-and, Decides-eqb}
use Rattle.std.specs.List.{Contains}
use Rattle.std.specs.List.Sorted.{IsStrictlySortedBy}
use Rattle.lw_formula.specs.FiniteModel.{FiniteModel, IsWellFormed, Sees, HasFact}
use Rattle.lw_formula.proofs.ListMembers.{All-members}
use Rattle.lw_bisim.specs.Bisimulation.{HaveSameLetters}
use Rattle.lw_bisim.specs.Quotient.{place_of}
use Rattle.lw_bisim.specs.Private.Classes.{HasClass}
use Rattle.lw_bisim.specs.Private.Rounds.{Follows, AreAlike, AreClassesOf}
use Rattle.lw_bisim.proofs.SortedLists.{same_sorted}
use Rattle.lw_bisim.proofs.StillRounds.{seen_within}

-- what a world sees is within the places
pub seen_placed : (m : FiniteModel) → IsWellFormed m → (v n : ℕ) (ws : List ℕ) → n ≡ m.worlds → ((w : ℕ) → Contains ws w ↔ Sees m v w) → All (λ w. w < n) ws
seen_placed m ok v n ws e h = All-members (λ w. w < n) ws (λ w c. subst (λ k. w < k) (sym e) (seen_within m ok v w ((h w).0 c)).1)

-- these are the letters that are true at v, in order
pub record AreLettersOf (m : FiniteModel) (v : ℕ) (names : List (List ℕ)) : Type 0 where
  pub exact : (p : List ℕ) → Contains names p ↔ HasFact m v p
  pub ordered : IsStrictlySortedBy (slice_cmp nat_cmp) names

-- lists of letters are equal where the letters are the same
pub letters_same : (m : FiniteModel) (v u : ℕ) (ps qs : List (List ℕ)) → AreLettersOf m v ps → AreLettersOf m u qs → (ps ≡ qs) ↔ HaveSameLetters m v u
letters_same m v u ps qs h k = (
  λ e p. (λ f. (k.exact p).0 (subst (λ xs. Contains xs p) e ((h.exact p).1 f)), λ f. (h.exact p).0 (subst (λ xs. Contains xs p) (sym e) ((k.exact p).1 f))),
  λ same. same_sorted (slice_cmp nat_cmp) nat_list_cmp_total ps qs h.ordered k.ordered (λ p. (
    λ c. (k.exact p).1 ((same p).0 ((h.exact p).0 c)),
    λ c. (h.exact p).1 ((same p).1 ((k.exact p).0 c)),
  )),
)

-- these are the classes that v sees, in order
pub record AreClassesSeen (m : FiniteModel) (places : List ℕ) (v : ℕ) (cs : List ℕ) : Type 0 where
  pub exact : (c : ℕ) → Contains cs c ↔ ((w : ℕ) × Sees m v w × (place_of places w ≡ c))
  pub ordered : IsStrictlySortedBy nat_cmp cs

pub seen_classes : (m : FiniteModel) (places : List ℕ) (v : ℕ) (ws cs : List ℕ) → ((w : ℕ) → Contains ws w ↔ Sees m v w) → ((c : ℕ) → Contains cs c ↔ HasClass places ws c) → IsStrictlySortedBy nat_cmp cs → AreClassesSeen m places v cs
seen_classes m places v ws cs h k o = record {
  exact = λ c. (
    λ x. let t = (k c).0 x in (t.0, (h t.0).0 t.1, t.2),
    λ t. (k c).1 (t.0, (h t.0).1 t.1, t.2),
  );
  ordered = o;
}

module _ (m : FiniteModel) (ok : IsWellFormed m) (k : ℕ) (places : List ℕ) (count : ℕ) (h : AreClassesOf m (AreAlike m k) places count) where
  same_seen : (v u : ℕ) (cs ds : List ℕ) → AreClassesSeen m places v cs → AreClassesSeen m places u ds → cs ≡ ds → Follows m (AreAlike m k) v u
  same_seen v u cs ds a b e w s =
      let t = (b.exact (place_of places w)).0 (subst (λ xs. Contains xs (place_of places w)) e ((a.exact (place_of places w)).1 (w, s, refl))) in
      (t.0, t.1, (h.classes w t.0 (seen_within m ok v w s).1 (seen_within m ok u t.0 t.1).1).0 (sym t.2))

  seen_too : (v u : ℕ) (cs ds : List ℕ) → AreClassesSeen m places v cs → AreClassesSeen m places u ds → Follows m (AreAlike m k) v u → (c : ℕ) → Contains cs c → Contains ds c
  seen_too v u cs ds a b f c x =
      let w = (a.exact c).0 x in
      let t = f w.0 w.1 in
      (b.exact c).1 (t.0, t.1, sym ((h.classes w.0 t.0 (seen_within m ok v w.0 w.1).1 (seen_within m ok u t.0 t.1).1).1 t.2) ∙ w.2)

  -- worlds of one class that see the same classes are those that are alike in the next round
  pub keys_same : (v u : ℕ) (cs ds : List ℕ) → v < m.worlds → u < m.worlds → AreClassesSeen m places v cs → AreClassesSeen m places u ds →
      ((place_of places v ≡ place_of places u) × (cs ≡ ds)) ↔ AreAlike m (suc k) v u
  keys_same v u cs ds l n a b = (
    λ e. ((h.classes v u l n).0 e.0, same_seen v u cs ds a b e.1, same_seen u v ds cs b a (sym e.1)),
    λ s. (
      (h.classes v u l n).1 s.0,
      same_sorted nat_cmp nat_cmp_total cs ds a.ordered b.ordered (λ c. (seen_too v u cs ds a b s.1 c, seen_too u v ds cs b a s.2 c)),
    ),
  )

  -- so the test of such keys tells it
  pub keys_told : (v u a b : ℕ) (cs ds : List ℕ) → v < m.worlds → u < m.worlds → a ≡ place_of places v → b ≡ place_of places u → AreClassesSeen m places v cs → AreClassesSeen m places u ds →
      ((a == b) && pointwise eqb cs ds ≡ true) ↔ AreAlike m (suc k) v u
  keys_told v u a b cs ds l n p q x y =
      let same = keys_same v u cs ds l n x y in
      let tests = Decides-and (a == b) (pointwise eqb cs ds) (Decides-eqb a b) (bytes_decides cs ds) in (
        λ e. let t = tests.0 e in same.0 (sym p ∙ t.0 ∙ q, t.1),
        λ s. let t = same.1 s in tests.1 (p ∙ t.0 ∙ sym q, t.1),
      )

-- keys that are equal where their lists are
pub letters_told : (eq : Bor (List (List ℕ)) → Bor (List (List ℕ)) → Bool) → ((x y : Bor (List (List ℕ))) → Decides (eq x y) (x.now ≡ y.now)) →
    (m : FiniteModel) (v u : ℕ) (x y : Bor (List (List ℕ))) → AreLettersOf m v x.now → AreLettersOf m u y.now → (eq x y ≡ true) ↔ AreAlike m zero v u
letters_told eq each m v u x y h k =
    let same = letters_same m v u x.now y.now h k in
    (λ e. same.0 ((each x y).0 e), λ s. (each x y).1 (same.1 s))
