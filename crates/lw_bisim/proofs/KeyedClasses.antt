-- Classes by a key of each world are the classes of a relation that the keys tell.
use Rattle.std.proofs.Common.{◌≡◌, ℕ, ◌+◌, ◌<◌, Bool, true, List, [], ◌∷◌, ◌++◌, length, get_or, ◌↔◌, subst, sym, ◌∙◌, arith}
use Rattle.std.proofs.lemmas.List.{length_push}
use Rattle.lw_formula.specs.FiniteModel.{FiniteModel}
use Rattle.lw_pool.proofs.WalkTables.{each_push}
use Rattle.lw_bisim.specs.Private.Classes.{AreClassesBy}
use Rattle.lw_bisim.specs.Private.Rounds.{AreClassesOf}

-- what holds of each of the first n elements, which are all, holds when one more is put behind them of which it holds
pub each_more : {X : Type 0} (P : ℕ → X → Type 0) (xs : List X) (x : X) (n : ℕ) → length xs ≡ n → ((i : ℕ) (d : X) → i < n → P i (get_or xs i d)) → P n x →
    (i : ℕ) (d : X) → i < n + 1 → P i (get_or (xs ++ x ∷ []) i d)
each_more P xs x n long each last i d l =
    each_push P xs x (λ k e b. each k e (omega (arith, long))) (subst (λ k. P k x) (sym long) last) i d (omega (arith, long, length_push xs x))

-- where equal keys tell of a relation, the classes are those of the relation
pub classes_of : {K : Type 0} (eq : K → K → Bool) (m : FiniteModel) (related : ℕ → ℕ → Type 0) (keys : List K) (places : List ℕ) (count : ℕ) → length keys ≡ m.worlds →
    ((v u : ℕ) (d : K) → v < m.worlds → u < m.worlds → (eq (get_or keys v d) (get_or keys u d) ≡ true) ↔ related v u) → AreClassesBy eq keys places count → AreClassesOf m related places count
classes_of {K} eq m related keys places count long told h = record {
  placed = h.placed ∙ long;
  numbered = h.numbered;
  classes = λ v u l k.
      let i : v < length keys = omega arith in
      let j : u < length keys = omega arith in (
        λ e. let d = some keys v i in (told v u d l k).0 ((h.classes v u i j).0 e d),
        λ r. (h.classes v u i j).1 (λ d. (told v u d l k).1 r),
      );
}
  where
    some : (xs : List K) (i : ℕ) → i < length xs → K
    some [] i l = let bad : ⊥ = omega arith in absurd bad
    some (x ∷ xs) i l = x
