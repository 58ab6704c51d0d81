-- Truth is the same at related worlds of two models, where the relation keeps letters and goes forth and back.
use Rattle.std.proofs.Common.{ℕ, List, ◌↔◌, inl, inr, ⊎_elim}
use Rattle.lw_formula.specs.Formula.{Formula, letter, falsum, verum, neg, conj, disj, impl, equi, nec, poss}
use Rattle.lw_formula.specs.FiniteModel.{FiniteModel, Sees, HasFact}
use Rattle.lw_formula.specs.Truth.{IsTrueAt}

-- related worlds have the same letters, and what one of them sees is related to something that the other sees
pub record GoesForthAndBack (m n : FiniteModel) (related : ℕ → ℕ → Type 0) : Type 0 where
  pub letters : (v u : ℕ) → related v u → (p : List ℕ) → HasFact m v p ↔ HasFact n u p
  pub forth : (v u w : ℕ) → related v u → Sees m v w → (x : ℕ) × Sees n u x × related w x
  pub back : (v u x : ℕ) → related v u → Sees n u x → (w : ℕ) × Sees m v w × related w x

-- so they have the same truths (Blackburn, de Rijke and Venema, theorem 2.20)
pub same_truth : (a : Formula) (m n : FiniteModel) (related : ℕ → ℕ → Type 0) → GoesForthAndBack m n related → (v u : ℕ) → related v u → IsTrueAt m v a ↔ IsTrueAt n u a
same_truth (letter p) m n r h v u z = h.letters v u z p
same_truth falsum m n r h v u z = (λ x. x, λ x. x)
same_truth verum m n r h v u z = (λ x. x, λ x. x)
same_truth (neg a) m n r h v u z = let i = same_truth a m n r h v u z in (λ k t. k (i.1 t), λ k t. k (i.0 t))
same_truth (conj a b) m n r h v u z =
    let i = same_truth a m n r h v u z in
    let j = same_truth b m n r h v u z in
    (λ t. (i.0 t.0, j.0 t.1), λ t. (i.1 t.0, j.1 t.1))
same_truth (disj a b) m n r h v u z =
    let i = same_truth a m n r h v u z in
    let j = same_truth b m n r h v u z in
    (λ t. ⊎_elim (λ l. inl (i.0 l)) (λ l. inr (j.0 l)) t, λ t. ⊎_elim (λ l. inl (i.1 l)) (λ l. inr (j.1 l)) t)
same_truth (impl a b) m n r h v u z =
    let i = same_truth a m n r h v u z in
    let j = same_truth b m n r h v u z in
    (λ f t. j.0 (f (i.1 t)), λ f t. j.1 (f (i.0 t)))
same_truth (equi a b) m n r h v u z =
    let i = same_truth a m n r h v u z in
    let j = same_truth b m n r h v u z in
    (λ f. (λ t. j.0 (f.0 (i.1 t)), λ t. i.0 (f.1 (j.1 t))), λ f. (λ t. j.1 (f.0 (i.0 t)), λ t. i.1 (f.1 (j.0 t))))
same_truth (nec a) m n r h v u z = (
  λ all x s. let t = h.back v u x z s in (same_truth a m n r h t.0 x t.2).0 (all t.0 t.1),
  λ all w s. let t = h.forth v u w z s in (same_truth a m n r h w t.0 t.2).1 (all t.0 t.1),
)
same_truth (poss a) m n r h v u z = (
  λ some. let t = h.forth v u some.0 z some.1 in (t.0, t.1, (same_truth a m n r h some.0 t.0 t.2).0 some.2),
  λ some. let t = h.back v u some.0 z some.1 in (t.0, t.1, (same_truth a m n r h t.0 some.0 t.2).1 some.2),
)
