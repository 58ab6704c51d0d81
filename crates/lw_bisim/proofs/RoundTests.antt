-- Tests of whether worlds are alike up to a number of steps.
use Rattle.std.proofs.Common.{◌≡◌, ℕ, zero, suc, Bool, ◌==◌, ◌&&◌, ◌||◌, not, List, refl, subst}
use Rattle.std.specs.Bool.{Decides}
use Rattle.std.specs.List.{Contains, list_all, list_any}
use Rattle.std.proofs.lemmas.Bool.Decides.{Decides-and, Decides-like, Decides-eqb}
use Rattle.lw_formula.specs.FiniteModel.{FiniteModel, Sees, HasFact}
use Rattle.lw_formula.specs.Truth.{has_fact}
use Rattle.lw_formula.proofs.ListTests.{list_all-Decides, list_any-Decides, Decides-implies}
use Rattle.lw_formula.proofs.TruthTest.{has_fact-Contains}
use Rattle.lw_bisim.specs.Bisimulation.{HaveSameLetters, IsBisimulation}
use Rattle.lw_bisim.specs.Private.Rounds.{Follows, AreAlike}

-- whether each letter that is true at v is true at u
abbrev pub has_letters_of : FiniteModel → ℕ → ℕ → Bool
has_letters_of m v u = list_all (λ f. not (f.0 == v) || has_fact m.facts u f.1) m.facts

-- whether u sees a world that w is related to
abbrev pub sees_like : FiniteModel → (ℕ → ℕ → Bool) → ℕ → List (ℕ × ℕ) → ℕ → Bool
sees_like m test u ps w = list_any (λ q. (q.0 == u) && test w q.1) ps

-- whether each world that v sees is related to one that u sees
abbrev pub follows : FiniteModel → (ℕ → ℕ → Bool) → ℕ → ℕ → Bool
follows m test v u = list_all (λ p. not (p.0 == v) || sees_like m test u m.pairs p.1) m.pairs

-- whether v and u are alike up to k steps
abbrev pub alike : FiniteModel → ℕ → ℕ → ℕ → Bool
alike m zero v u = has_letters_of m v u && has_letters_of m u v
alike m (suc k) v u = alike m k v u && (follows m (alike m k) v u && follows m (alike m k) u v)

has_letters_of-Decides : (m : FiniteModel) (v u : ℕ) → Decides (has_letters_of m v u) ((p : List ℕ) → HasFact m v p → HasFact m u p)
has_letters_of-Decides m v u =
    Decides-like (has_letters_of m v u)
    (λ all p h. all (v, p) h refl)
    (λ all f h e. all f.1 (subst (λ w. Contains m.facts (w, f.1)) e h))
    (list_all-Decides (λ f. not (f.0 == v) || has_fact m.facts u f.1) (λ f. f.0 ≡ v → HasFact m u f.1)
    (λ f. Decides-implies (f.0 == v) (has_fact m.facts u f.1) (Decides-eqb f.0 v) (has_fact-Contains m.facts u f.1))
    m.facts)

sees_like-Decides : (m : FiniteModel) (test : ℕ → ℕ → Bool) (related : ℕ → ℕ → Type 0) → ((w x : ℕ) → Decides (test w x) (related w x)) → (u w : ℕ) → Decides (sees_like m test u m.pairs w) ((x : ℕ) × Sees m u x × related w x)
sees_like-Decides m test related each u w =
    Decides-like (sees_like m test u m.pairs w)
    (λ some. (some.0.1, subst (λ y. Contains m.pairs (y, some.0.1)) some.2.0 some.1, some.2.1))
    (λ some. ((u, some.0), some.1, (refl, some.2)))
    (list_any-Decides (λ q. (q.0 == u) && test w q.1) (λ q. (q.0 ≡ u) × related w q.1)
    (λ q. Decides-and (q.0 == u) (test w q.1) (Decides-eqb q.0 u) (each w q.1))
    m.pairs)

follows-Decides : (m : FiniteModel) (test : ℕ → ℕ → Bool) (related : ℕ → ℕ → Type 0) → ((w x : ℕ) → Decides (test w x) (related w x)) → (v u : ℕ) → Decides (follows m test v u) (Follows m related v u)
follows-Decides m test related each v u =
    Decides-like (follows m test v u)
    (λ all w s. all (v, w) s refl)
    (λ all p s e. all p.1 (subst (λ y. Contains m.pairs (y, p.1)) e s))
    (list_all-Decides (λ p. not (p.0 == v) || sees_like m test u m.pairs p.1) (λ p. p.0 ≡ v → (x : ℕ) × Sees m u x × related p.1 x)
    (λ p. Decides-implies (p.0 == v) (sees_like m test u m.pairs p.1) (Decides-eqb p.0 v) (sees_like-Decides m test related each u p.1))
    m.pairs)

-- the test decides
pub alike-Decides : (m : FiniteModel) (k v u : ℕ) → Decides (alike m k v u) (AreAlike m k v u)
alike-Decides m zero v u =
    Decides-like (alike m zero v u)
    (λ h p. (h.0 p, h.1 p))
    (λ h. (λ p. (h p).0, λ p. (h p).1))
    (Decides-and (has_letters_of m v u) (has_letters_of m u v) (has_letters_of-Decides m v u) (has_letters_of-Decides m u v))
alike-Decides m (suc k) v u =
    let each = alike-Decides m k in
    Decides-like (alike m (suc k) v u)
    (λ h. (h.0, h.1.0, h.1.1))
    (λ h. (h.0, (h.1, h.2)))
    (Decides-and (alike m k v u) (follows m (alike m k) v u && follows m (alike m k) u v) (each v u)
    (Decides-and (follows m (alike m k) v u) (follows m (alike m k) u v) (follows-Decides m (alike m k) (AreAlike m k) each v u) (follows-Decides m (alike m k) (AreAlike m k) each u v)))

pub alike_sym : (m : FiniteModel) (k v u : ℕ) → AreAlike m k v u → AreAlike m k u v
alike_sym m zero v u h = λ p. ((h p).1, (h p).0)
alike_sym m (suc k) v u h = (alike_sym m k v u h.0, h.2, h.1)

pub alike-letters : (m : FiniteModel) (k v u : ℕ) → AreAlike m k v u → HaveSameLetters m v u
alike-letters m zero v u h = h
alike-letters m (suc k) v u h = alike-letters m k v u h.0

-- worlds that a bisimulation relates are alike
pub alike_from_bisimulation : (m : FiniteModel) (z : List (ℕ × ℕ)) → IsBisimulation m z → (k v u : ℕ) → Contains z (v, u) → AreAlike m k v u
alike_from_bisimulation m z h zero v u r = h.letters v u r
alike_from_bisimulation m z h (suc k) v u r = (
  alike_from_bisimulation m z h k v u r,
  (λ w s. let t = h.forth v u w r s in (t.0, t.1, alike_from_bisimulation m z h k w t.0 t.2)),
  (λ x s. let t = h.back v u x r s in (t.0, t.1, alike_sym m k t.0 x (alike_from_bisimulation m z h k t.0 x t.2))),
)
