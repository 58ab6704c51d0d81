-- A walk that makes what is right for each subformula of a root, operands first, while the region grows.
use Rattle.std.proofs.Common.{◌≡◌, ℕ, ◌+◌, ◌<◌, List, [], ◌∷◌, ◌++◌, length, get_or, sym, ap, subst, ◌∙◌, arith, length-append}
use Rattle.lw_formula.specs.Formula.{Formula, falsum, IsSubformula}
use Rattle.lw_formula.proofs.SubformulaLists.{IsSubformula-trans}
use Rattle.lw_pool.specs.declared.id.FormId.{FormId}
use Rattle.lw_pool.specs.Region.{tree_at, IsLive, Grows}
use Rattle.lw_pool.proofs.SubformulasBelow.{operand_within}
use Rattle.lw_pool.proofs.RegionGrowth.{Grows-trans}
use Rattle.lw_pool.proofs.WalkTables.{each_push}
use Rattle.lw_pool.specs.Walk.{AreOperandsRight}

-- what the table has when the ids below i are done: at each place with a subformula of the root, what is right for it
pub record IsFolded {X : Type 0} (M : List Formula → Formula → X → Type 0) (old : List Formula) (root : Formula) (i : ℕ) (ts : List Formula) (done : List X) : Type 0 where
  pub long : length done ≡ i
  pub grows : Grows old ts
  pub right : (c : FormId) (d : X) → c.0 < length done → IsSubformula (tree_at ts c) root → M ts (tree_at ts c) (get_or done c.0 d)

-- the next one's operands are done
pub fold_ready : {X : Type 0} (M : List Formula → Formula → X → Type 0) (old : List Formula) (root : Formula) (a : FormId) (ts : List Formula) (done : List X) →
    IsFolded M old root a.0 ts done → IsSubformula (tree_at ts a) root → AreOperandsRight (M ts) ts done a
fold_ready M old root a ts done h s c d l o =
    h.right c d (omega (arith, h.long)) (IsSubformula-trans (tree_at ts c) (tree_at ts a) root (operand_within (tree_at ts c) (tree_at ts a) o) s)

-- one place more
pub fold_push : {X : Type 0} (M : List Formula → Formula → X → Type 0) (old : List Formula) (root : Formula) (a : FormId) (ts us : List Formula) (done : List X) (b : X) →
    IsFolded M old root a.0 ts done → IsLive ts a → Grows ts us → ((t : Formula) (x : X) → M ts t x → M us t x) →
    (IsSubformula (tree_at ts a) root → M us (tree_at ts a) b) → IsFolded M old root (a.0 + 1) us (done ++ b ∷ [])
fold_push {X} M old root a ts us done b h live g lasts new =
    let here : get_or us (length done) falsum ≡ get_or ts a.0 falsum = ap (λ (j : ℕ). get_or us j falsum) h.long ∙ g.same a live in
    record {
      long = omega (arith, h.long, length-append done (b ∷ []));
      grows = Grows-trans old ts us h.grows g;
      right = λ c d l s.
          each_push (λ (k : ℕ) (x : X). IsSubformula (get_or us k falsum) root → M us (get_or us k falsum) x) done b
          (λ k e m t.
          let same : get_or us k falsum ≡ get_or ts k falsum = g.same (record { 0 = k }) (omega (arith, h.long)) in
          subst (λ (u : Formula). M us u (get_or done k e)) (sym same)
          (lasts (get_or ts k falsum) (get_or done k e) (h.right (record { 0 = k }) e m (subst (λ (u : Formula). IsSubformula u root) same t))))
          (λ t. subst (λ (u : Formula). M us u b) (sym here) (new (subst (λ (u : Formula). IsSubformula u root) here t)))
          c.0 d l s;
    }
