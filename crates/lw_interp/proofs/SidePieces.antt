-- Each member of a set is on a side, and what is on a side is a piece of that side's formula.
use Rattle.std.proofs.Common.{◌≡◌, ℕ, ◌+◌, ◌≤◌, Bool, true, false, ◌&&◌, ◌||◌, ◌⊎◌, inl, inr, List, [], ◌∷◌, refl, sym, ap, subst, arith, ◌∙◌}
use Rattle.std.specs.Bool.{IsTrue, ⊤}
use Rattle.std.specs.List.{list_any}
use Rattle.std.proofs.lemmas.Bool.{false≢true, or_cases, or_left, or_right, and_parts, and_from}
use Rattle.lw_formula.specs.declared.logic.Logic.{Logic}
use Rattle.lw_formula.specs.declared.logic.Logic.TheVariants.{K, KT, S4, S5, GL, Grz, K4, KD}
use Rattle.lw_formula.specs.declared.sign.Sign.TheVariants.{T, F}
use Rattle.lw_formula.specs.declared.parts.Parts.{Parts}
use Rattle.lw_formula.specs.declared.parts.Parts.TheVariants.{Nothing, One, Two, Nu, Pi}
use Rattle.lw_formula.specs.Formula.{Formula, neg, conj, disj, impl, equi, nec, poss, nodes}
use Rattle.lw_formula.specs.Variables.{Occurs}
use Rattle.lw_formula.specs.Signed.{Signed, SignedSet, flip}
use Rattle.lw_formula.specs.Components.{parts_of}
use Rattle.lw_proof.specs.declared.rule.Rule.{Rule}
use Rattle.lw_proof.specs.System.{IsWithin, trees, same_signed, nu_of}
use Rattle.lw_proof.specs.Derivation.{is_one, is_two, is_nu, is_pi, has_cut, has_serial, side, plus, kept, added, premises, Applies, only}
use Rattle.lw_proof.proofs.SignedMeaning.{same_signed-Decides}
use Rattle.lw_interp.specs.Interpolant.{has_interpolants}
use Rattle.lw_interp.specs.Maehara.{Sides, put, kept_sides, splits, start}

-- the formula of s has variables of a alone, and no more nodes than a
pub record Piece (a : Formula) (s : Signed) : Type 0 where
  pub variables : (p : List ℕ) → Occurs p s.1 → Occurs p a
  pub small : nodes s.1 ≤ nodes a

-- all of these are
abbrev pub AllPieces : Formula → List Signed → Type 0
AllPieces a [] = ⊤
AllPieces a (s ∷ ss) = Piece a s × AllPieces a ss

-- the components are
abbrev pub PartsPieces : Formula → Parts Signed → Type 0
PartsPieces a Nothing = ⊤
PartsPieces a (One c d) = AllPieces a (side c d)
PartsPieces a (Two p q) = AllPieces a (side p.0 p.1) × AllPieces a (side q.0 q.1)
PartsPieces a (Nu c) = Piece a c
PartsPieces a (Pi c) = Piece a c

module _ (a : Formula) where
  lower : (s t : Signed) → ((p : List ℕ) → Occurs p t.1 → Occurs p s.1) → nodes t.1 ≤ nodes s.1 → Piece a s → Piece a t
  lower s t f l h = record { variables = λ p o. h.variables p (f p o); small = omega (arith, l, h.small) }

  -- the components of a piece are pieces: a row for each connective
  pub parts_pieces : (s : Signed) → Piece a s → PartsPieces a (parts_of s)
  parts_pieces (T, conj c d) h = (lower (T, conj c d) (T, c) (λ p o. inl o) (omega arith) h, (lower (T, conj c d) (T, d) (λ p o. inr o) (omega arith) h, tt))
  parts_pieces (F, disj c d) h = (lower (F, disj c d) (F, c) (λ p o. inl o) (omega arith) h, (lower (F, disj c d) (F, d) (λ p o. inr o) (omega arith) h, tt))
  parts_pieces (F, impl c d) h = (lower (F, impl c d) (T, c) (λ p o. inl o) (omega arith) h, (lower (F, impl c d) (F, d) (λ p o. inr o) (omega arith) h, tt))
  parts_pieces (T, neg c) h = (lower (T, neg c) (F, c) (λ p o. o) (omega arith) h, tt)
  parts_pieces (F, neg c) h = (lower (F, neg c) (T, c) (λ p o. o) (omega arith) h, tt)
  parts_pieces (F, conj c d) h = ((lower (F, conj c d) (F, c) (λ p o. inl o) (omega arith) h, tt), (lower (F, conj c d) (F, d) (λ p o. inr o) (omega arith) h, tt))
  parts_pieces (T, disj c d) h = ((lower (T, disj c d) (T, c) (λ p o. inl o) (omega arith) h, tt), (lower (T, disj c d) (T, d) (λ p o. inr o) (omega arith) h, tt))
  parts_pieces (T, impl c d) h = ((lower (T, impl c d) (F, c) (λ p o. inl o) (omega arith) h, tt), (lower (T, impl c d) (T, d) (λ p o. inr o) (omega arith) h, tt))
  parts_pieces (T, equi c d) h = (
    (lower (T, equi c d) (T, c) (λ p o. inl o) (omega arith) h, (lower (T, equi c d) (T, d) (λ p o. inr o) (omega arith) h, tt)),
    (lower (T, equi c d) (F, c) (λ p o. inl o) (omega arith) h, (lower (T, equi c d) (F, d) (λ p o. inr o) (omega arith) h, tt)),
  )
  parts_pieces (F, equi c d) h = (
    (lower (F, equi c d) (T, c) (λ p o. inl o) (omega arith) h, (lower (F, equi c d) (F, d) (λ p o. inr o) (omega arith) h, tt)),
    (lower (F, equi c d) (F, c) (λ p o. inl o) (omega arith) h, (lower (F, equi c d) (T, d) (λ p o. inr o) (omega arith) h, tt)),
  )
  parts_pieces (T, nec c) h = lower (T, nec c) (T, c) (λ p o. o) (omega arith) h
  parts_pieces (F, poss c) h = lower (F, poss c) (F, c) (λ p o. o) (omega arith) h
  parts_pieces (F, nec c) h = lower (F, nec c) (F, c) (λ p o. o) (omega arith) h
  parts_pieces (T, poss c) h = lower (T, poss c) (T, c) (λ p o. o) (omega arith) h
  parts_pieces _ h = tt

  -- all members of a set are pieces
  abbrev pub AreTaken : SignedSet → Type 0
  AreTaken X = (s : Signed) → IsTrue (X s) → Piece a s

  under_nu : (s : Signed) → Piece a (nu_of s) → Piece a s
  under_nu (T, c) h = parts_pieces (T, nec c) h
  under_nu (F, c) h = parts_pieces (F, poss c) h

  among_taken : (cs : List Signed) (s : Signed) → AllPieces a cs → list_any (λ c. same_signed c s) cs ≡ true → Piece a s
  among_taken [] s h e = absurd (false≢true e)
  among_taken (c ∷ cs) s h e =
      elim (or_cases (same_signed c s) (list_any (λ c. same_signed c s) cs) e) [
        | inl same ↦ subst (Piece a) ((same_signed-Decides c s).0 same) h.0
        | inr rest ↦ among_taken cs s h.1 rest
      ]

  plus_taken : (cs : List Signed) (X : SignedSet) → AllPieces a cs → AreTaken X → AreTaken (plus trees cs X)
  plus_taken cs X h t s e = elim (or_cases (list_any (λ c. same_signed c s) cs) (X s) e) [ inl one ↦ among_taken cs s h one | inr old ↦ t s old ]

  kept_taken : (L : Logic) (X : SignedSet) → AreTaken X → AreTaken (kept trees L X)
  kept_taken K X t s e = under_nu s (t (nu_of s) e)
  kept_taken KT X t s e = under_nu s (t (nu_of s) e)
  kept_taken S4 X t s e = t s (and_parts _ (X s) e).1
  kept_taken S5 X t s e = t s (and_parts _ (X s) e).1
  kept_taken GL X t s e = elim (or_cases (is_nu (parts_of s) && X s) (X (nu_of s)) e) [ inl old ↦ t s (and_parts _ (X s) old).1 | inr below ↦ under_nu s (t (nu_of s) below) ]
  kept_taken Grz X t s e = t s (and_parts _ (X s) e).1
  kept_taken K4 X t s e = elim (or_cases (is_nu (parts_of s) && X s) (X (nu_of s)) e) [ inl old ↦ t s (and_parts _ (X s) old).1 | inr below ↦ under_nu s (t (nu_of s) below) ]
  kept_taken KD X t s e = under_nu s (t (nu_of s) e)

  flipped : (s : Signed) → Piece a s → Piece a (flip s)
  flipped s h = record { variables = h.variables; small = h.small }

  added_taken : (L : Logic) → IsTrue (has_interpolants L) → (s c : Signed) → Piece a s → Piece a c → AllPieces a (added trees L s c)
  added_taken K y s c h g = (g, tt)
  added_taken KT y s c h g = (g, tt)
  added_taken S4 y s c h g = (g, tt)
  added_taken S5 y s c h g = absurd (false≢true y)
  added_taken GL y s c h g = (g, (flipped s h, tt))
  added_taken Grz y s c h g = absurd (false≢true y)
  added_taken K4 y s c h g = (g, tt)
  added_taken KD y s c h g = (g, tt)

nu_is_nu : (s : Signed) → IsTrue (is_nu (parts_of (nu_of s)))
nu_is_nu (T, a) = refl
nu_is_nu (F, a) = refl

-- what a step keeps of a set it keeps of one of two others, where each ν of the set is in one of them
kept_either : (L : Logic) → IsTrue (has_interpolants L) → (X Y Z : SignedSet) → ((s : Signed) → IsTrue (is_nu (parts_of s)) → IsTrue (X s) → IsTrue (Y s) ⊎ IsTrue (Z s)) →
    (s : Signed) → IsTrue (kept trees L X s) → IsTrue (kept trees L Y s) ⊎ IsTrue (kept trees L Z s)
kept_either L known X Y Z h s e = by L known e
  where
    below : IsTrue (X (nu_of s)) → IsTrue (Y (nu_of s)) ⊎ IsTrue (Z (nu_of s))
    below e = h (nu_of s) (nu_is_nu s) e

    same : (is_nu (parts_of s) && X s) ≡ true → ((is_nu (parts_of s) && Y s) ≡ true) ⊎ ((is_nu (parts_of s) && Z s) ≡ true)
    same e =
        let both = and_parts (is_nu (parts_of s)) (X s) e in
        elim (h s both.0 both.1) [ inl y ↦ inl (and_from (is_nu (parts_of s)) (Y s) both.0 y) | inr z ↦ inr (and_from (is_nu (parts_of s)) (Z s) both.0 z) ]

    by : (L : Logic) → IsTrue (has_interpolants L) → IsTrue (kept trees L X s) → IsTrue (kept trees L Y s) ⊎ IsTrue (kept trees L Z s)
    by K known e = below e
    by KT known e = below e
    by S4 known e = same e
    by S5 known e = absurd (false≢true known)
    by GL known e =
        elim (or_cases (is_nu (parts_of s) && X s) (X (nu_of s)) e) [
          | inl old ↦ elim (same old) [ inl y ↦ inl (or_left _ (Y (nu_of s)) y) | inr z ↦ inr (or_left _ (Z (nu_of s)) z) ]
          | inr new ↦ elim (below new) [ inl y ↦ inl (or_right (is_nu (parts_of s) && Y s) _ y) | inr z ↦ inr (or_right (is_nu (parts_of s) && Z s) _ z) ]
        ]
    by Grz known e = same e
    by K4 known e = absurd (false≢true known)
    by KD known e = absurd (false≢true known)

-- no cut is a rule of these logics
pub no_cut : (L : Logic) → IsTrue (has_interpolants L) → IsTrue (has_cut L) → ⊥
no_cut K known e = false≢true e
no_cut KT known e = false≢true e
no_cut S4 known e = false≢true e
no_cut S5 known e = false≢true known
no_cut GL known e = false≢true e
no_cut Grz known e = false≢true e
no_cut K4 known e = false≢true e
no_cut KD known e = false≢true e

-- nor is Serial
pub no_serial : (L : Logic) → IsTrue (has_interpolants L) → IsTrue (has_serial L) → ⊥
no_serial K known e = false≢true e
no_serial KT known e = false≢true e
no_serial S4 known e = false≢true e
no_serial S5 known e = false≢true e
no_serial GL known e = false≢true e
no_serial Grz known e = false≢true e
no_serial K4 known e = false≢true e
no_serial KD known e = false≢true known

module _ (a b : Formula) where
  -- s is `F a -> b`, which is on neither side, and its components are on the sides
  pub record IsRoot (W : Sides) (s : Signed) : Type 0 where
    pub same : s ≡ (F, impl a b)
    pub on_left : IsTrue (W.left (T, a))
    pub on_right : IsTrue (W.right (F, b))

  -- s is on a side, or is the root
  abbrev pub IsPlaced : Sides → Signed → Type 0
  IsPlaced W s = (IsTrue (W.left s) ⊎ IsTrue (W.right s)) ⊎ IsRoot W s

  -- the sides cover the set, and have pieces of their formulas alone
  pub record Split (X : SignedSet) (W : Sides) : Type 0 where
    pub cover : (s : Signed) → IsTrue (X s) → IsPlaced W s
    pub of_left : AreTaken a W.left
    pub of_right : AreTaken b W.right

  -- a set is split into its sides, one by one
  abbrev pub AreSplit : List SignedSet → List Sides → Type 0
  AreSplit [] [] = ⊤
  AreSplit (X ∷ Xs) (W ∷ Ws) = Split X W × AreSplit Xs Ws
  AreSplit _ _ = ⊥

  -- no piece of a, and none of b, is as large as the root's formula
  pub too_large_left : (s : Signed) → s.1 ≡ impl a b → Piece a s → ⊥
  too_large_left s e h = let k = h.small in let n : nodes s.1 ≡ nodes a + nodes b + 1 = ap nodes e in omega (arith, k, n)

  pub too_large_right : (s : Signed) → s.1 ≡ impl a b → Piece b s → ⊥
  too_large_right s e h = let k = h.small in let n : nodes s.1 ≡ nodes a + nodes b + 1 = ap nodes e in omega (arith, k, n)

  -- the first sides are within the second
  pub record AreSidesWithin (V W : Sides) : Type 0 where
    pub left : IsWithin V.left W.left
    pub right : IsWithin V.right W.right

  placed_within : (V W : Sides) → AreSidesWithin V W → (s : Signed) → IsPlaced V s → IsPlaced W s
  placed_within V W h s (inl (inl x)) = inl (inl (h.left s x))
  placed_within V W h s (inl (inr y)) = inl (inr (h.right s y))
  placed_within V W h s (inr r) = inr (record { same = r.same; on_left = h.left (T, a) r.on_left; on_right = h.right (F, b) r.on_right })

  added_within : (cs : List Signed) (X : SignedSet) → IsWithin X (plus trees cs X)
  added_within cs X s e = or_right (list_any (λ c. same_signed c s) cs) (X s) e

  -- a set with components, and its sides with the components on a side
  put_split : (l r : Bool) (cs : List Signed) (X : SignedSet) (V : Sides) → (l || r) ≡ true → Split X V → (l ≡ true → AllPieces a cs) → (r ≡ true → AllPieces b cs) → Split (plus trees cs X) (put l r cs V)
  put_split true r cs X V e h f g = record {
    cover = λ s m. elim (or_cases (list_any (λ c. same_signed c s) cs) (X s) m) [
      | inl one ↦ inl (inl (or_left _ (V.left s) one))
      | inr old ↦ placed_within V (put true r cs V) (record { left = added_within cs V.left; right = λ s e. e }) s (h.cover s old)
    ];
    of_left = plus_taken a cs V.left (f refl) h.of_left;
    of_right = h.of_right;
  }
  put_split false true cs X V e h f g = record {
    cover = λ s m. elim (or_cases (list_any (λ c. same_signed c s) cs) (X s) m) [
      | inl one ↦ inl (inr (or_left _ (V.right s) one))
      | inr old ↦ placed_within V (put false true cs V) (record { left = λ s e. e; right = added_within cs V.right }) s (h.cover s old)
    ];
    of_left = h.of_left;
    of_right = plus_taken b cs V.right (g refl) h.of_right;
  }
  put_split false false cs X V e h f g = absurd (false≢true e)

  -- a set with the components of the root, which are on the sides
  root_split : (l r : Bool) (cs : List Signed) (X : SignedSet) (V : Sides) → (l ≡ true → ⊥) → (r ≡ true → ⊥) → Split X V →
      ((s : Signed) → list_any (λ c. same_signed c s) cs ≡ true → IsPlaced V s) → Split (plus trees cs X) (put l r cs V)
  root_split true r cs X V f g h o = absurd (f refl)
  root_split false true cs X V f g h o = absurd (g refl)
  root_split false false cs X V f g h o = record {
    cover = λ s m. elim (or_cases (list_any (λ c. same_signed c s) cs) (X s) m) [ inl one ↦ o s one | inr old ↦ h.cover s old ];
    of_left = h.of_left;
    of_right = h.of_right;
  }

  -- what is placed and isn't the root is on a side
  pub on_side : (W : Sides) (s : Signed) → IsPlaced W s → (s ≡ (F, impl a b) → ⊥) → (W.left s || W.right s) ≡ true
  on_side W s (inl (inl x)) n = or_left (W.left s) (W.right s) x
  on_side W s (inl (inr y)) n = or_right (W.left s) (W.right s) y
  on_side W s (inr r) n = absurd (n r.same)

  kept_split : (L : Logic) → IsTrue (has_interpolants L) → (X : SignedSet) (W : Sides) → Split X W → Split (kept trees L X) (kept_sides L W)
  kept_split L known X W h = record {
    cover = λ s e. inl (kept_either L known X W.left W.right nu_placed s e);
    of_left = kept_taken a L W.left h.of_left;
    of_right = kept_taken b L W.right h.of_right;
  }
    where
      nu_placed : (s : Signed) → IsTrue (is_nu (parts_of s)) → IsTrue (X s) → IsTrue (W.left s) ⊎ IsTrue (W.right s)
      nu_placed s nu e = elim (h.cover s e) [
        | inl placed ↦ placed
        | inr root ↦ absurd (false≢true (subst (λ t. is_nu (parts_of t) ≡ true) root.same nu))
      ]

  module _ (L : Logic) (known : IsTrue (has_interpolants L)) (s : Signed) (X : SignedSet) (W : Sides) (h : Split X W) where
    one_split : (p : Parts Signed) → IsTrue (is_one p) → (W.left s || W.right s) ≡ true → (W.left s ≡ true → PartsPieces a p) → (W.right s ≡ true → PartsPieces b p) →
        AreSplit (premises trees L Rule.One s p X) (splits L Rule.One s p W)
    one_split (One c d) e o f g = (put_split (W.left s) (W.right s) (side c d) X W o h f g, tt)
    one_split _ e o f g = absurd (false≢true e)

    two_split : (p : Parts Signed) → IsTrue (is_two p) → (W.left s || W.right s) ≡ true → (W.left s ≡ true → PartsPieces a p) → (W.right s ≡ true → PartsPieces b p) →
        AreSplit (premises trees L Rule.Two s p X) (splits L Rule.Two s p W)
    two_split (Two c d) e o f g = (
      put_split (W.left s) (W.right s) (side c.0 c.1) X W o h (λ l. (f l).0) (λ r. (g r).0),
      (put_split (W.left s) (W.right s) (side d.0 d.1) X W o h (λ l. (f l).1) (λ r. (g r).1), tt),
    )
    two_split _ e o f g = absurd (false≢true e)

    refl_split : (p : Parts Signed) → IsTrue (is_nu p) → (W.left s || W.right s) ≡ true → (W.left s ≡ true → PartsPieces a p) → (W.right s ≡ true → PartsPieces b p) →
        AreSplit (premises trees L Rule.Refl s p X) (splits L Rule.Refl s p W)
    refl_split (Nu c) e o f g = (put_split (W.left s) (W.right s) (c ∷ []) X W o h (λ l. (f l, tt)) (λ r. (g r, tt)), tt)
    refl_split _ e o f g = absurd (false≢true e)

    step_split : (p : Parts Signed) → IsTrue (is_pi p) → (W.left s || W.right s) ≡ true → (W.left s ≡ true → PartsPieces a p) → (W.right s ≡ true → PartsPieces b p) →
        AreSplit (premises trees L Rule.Step s p X) (splits L Rule.Step s p W)
    step_split (Pi c) e o f g = (
      put_split (W.left s) (W.right s) (added trees L s c) (kept trees L X) (kept_sides L W) o (kept_split L known X W h)
          (λ l. added_taken a L known s c (h.of_left s l) (f l)) (λ r. added_taken b L known s c (h.of_right s r) (g r)),
      tt,
    )
    step_split _ e o f g = absurd (false≢true e)

    of_a : W.left s ≡ true → PartsPieces a (parts_of s)
    of_a l = parts_pieces a s (h.of_left s l)

    of_b : W.right s ≡ true → PartsPieces b (parts_of s)
    of_b r = parts_pieces b s (h.of_right s r)

    placed_one : IsTrue (is_one (parts_of s)) → IsPlaced W s → AreSplit (premises trees L Rule.One s (parts_of s) X) (splits L Rule.One s (parts_of s) W)
    placed_one e (inl (inl x)) = one_split (parts_of s) e (or_left (W.left s) (W.right s) x) of_a of_b
    placed_one e (inl (inr y)) = one_split (parts_of s) e (or_right (W.left s) (W.right s) y) of_a of_b
    placed_one e (inr r) =
        subst (λ (p : Parts Signed). AreSplit (premises trees L Rule.One s p X) (splits L Rule.One s p W)) (sym (ap parts_of r.same)) (
          root_split (W.left s) (W.right s) ((T, a) ∷ (F, b) ∷ []) X W
              (λ l. too_large_left s (ap (λ (t : Signed). t.1) r.same) (h.of_left s l))
              (λ k. too_large_right s (ap (λ (t : Signed). t.1) r.same) (h.of_right s k))
              h
              (λ t m. elim (or_cases (same_signed (T, a) t) (same_signed (F, b) t || false) m) [
                | inl one ↦ inl (inl (subst (λ u. IsTrue (W.left u)) ((same_signed-Decides (T, a) t).0 one) r.on_left))
                | inr more ↦ elim (or_cases (same_signed (F, b) t) false more) [
                  | inl other ↦ inl (inr (subst (λ u. IsTrue (W.right u)) ((same_signed-Decides (F, b) t).0 other) r.on_right))
                  | inr none ↦ absurd (false≢true none)
                ]
              ]),
          tt,
        )

    no_root : (f : Parts Signed → Bool) → f (parts_of (F, impl a b)) ≡ false → IsTrue (f (parts_of s)) → s ≡ (F, impl a b) → ⊥
    no_root f n e same = false≢true (sym n ∙ subst (λ t. f (parts_of t) ≡ true) same e)

    -- the premises of a step are split into the sides of its premises
    pub premises_split : (cuts : SignedSet) (r : Rule) → Applies trees cuts L X r s → AreSplit (premises trees L r s (parts_of s) X) (splits L r s (parts_of s) W)
    premises_split cuts Rule.Close c = tt
    premises_split cuts Rule.Absurd c = tt
    premises_split cuts Rule.One c = placed_one c.0 (h.cover s c.1)
    premises_split cuts Rule.Two c = two_split (parts_of s) c.0 (on_side W s (h.cover s c.1) (no_root is_two refl c.0)) of_a of_b
    premises_split cuts Rule.Refl c = refl_split (parts_of s) c.1 (on_side W s (h.cover s c.2) (no_root is_nu refl c.1)) of_a of_b
    premises_split cuts Rule.Step c = step_split (parts_of s) c.0 (on_side W s (h.cover s c.1) (no_root is_pi refl c.0)) of_a of_b
    premises_split cuts Rule.Serial c = absurd (no_serial L known c.0)
    premises_split cuts Rule.Cut c = absurd (no_cut L known c.0)

  pub start_split : Split (only (F, impl a b)) (start a b)
  start_split = record {
    cover = λ s e. inr (record { same = sym ((same_signed-Decides (F, impl a b) s).0 e); on_left = (same_signed-Decides (T, a) (T, a)).1 refl; on_right = (same_signed-Decides (F, b) (F, b)).1 refl });
    of_left = λ s e. subst (Piece a) ((same_signed-Decides (T, a) s).0 e) (record { variables = λ p o. o; small = omega arith });
    of_right = λ s e. subst (Piece b) ((same_signed-Decides (F, b) s).0 e) (record { variables = λ p o. o; small = omega arith });
  }
