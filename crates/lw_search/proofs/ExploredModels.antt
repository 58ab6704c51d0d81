-- The model of a fragment that was explored from the goal's item refutes the goal, within the bounds.
use Rattle.std.proofs.Common.{◌≡◌, ◌≢◌, ℕ, ◌+◌, ◌/◌, ◌<◌, ◌≤◌, false, nat_eq, List, [], ◌∷◌, length, Some, ◌⊎◌, inl, inr, refl, sym, ap, subst, ◌∙◌, arith, eq-eqb}
use Rattle.std.specs.Bool.{IsTrue}
use Rattle.std.specs.List.{Contains}
use Rattle.std.proofs.lemmas.Bool.{false≢true, or_left}
use Rattle.std.proofs.lemmas.Bool.Decides.{Decides-eqb}
use Rattle.std.proofs.lemmas.List.Elements.{All-contains}
use Rattle.lw_formula.specs.declared.logic.Logic.{Logic}
use Rattle.lw_formula.specs.declared.logic.Logic.TheVariants.{K, KT, S4, S5, GL, Grz, K4, KD}
use Rattle.lw_formula.specs.declared.sign.Sign.TheVariants.{T, F}
use Rattle.lw_formula.specs.Formula.{Formula, letter, neg, conj, impl, nec, poss, depth, modal_count}
use Rattle.lw_formula.specs.FiniteModel.{FiniteModel, Sees}
use Rattle.lw_formula.specs.Variables.{Occurs}
use Rattle.lw_formula.specs.Signed.{Signed, HoldsSigned}
use Rattle.lw_formula.specs.Components.{guard_of}
use Rattle.lw_formula.specs.Validity.{Refutes}
use Rattle.lw_formula.proofs.ListTests.{list_any-Contains, list_any-Decides}
use Rattle.lw_formula.proofs.ListMembers.{All-members}
use Rattle.lw_formula.proofs.SubformulaLists.{IsSubformula-trans}
use Rattle.lw_pool.specs.Region.{tree_at}
use Rattle.lw_pool.proofs.VariablesMet.{occurs_within}
use Rattle.lw_model.specs.Bounds.{tree_size, step_bound, world_bound, HasFactsOf, IsWithinBounds, IsChain, HasChainsUpTo, HasShortChains}
use Rattle.lw_model.proofs.BoundGrowth.{tree_wider, tree_deeper}
use Rattle.lw_proof.specs.System.{Set, same_signed}
use Rattle.lw_proof.proofs.SignedMeaning.{same_signed-Decides}
use Rattle.lw_closure.specs.Table.{Table, item_count, signed_of}
use Rattle.lw_closure.specs.Keeps.{Keeps, IsOfClosure}
use Rattle.lw_closure.proofs.ItemFormulas.{guarded}
use Rattle.lw_counter.specs.Fragment.{Fragment, world_at, formulas_of}
use Rattle.lw_counter.specs.FragmentPaths.{has_links, IsEdge, Reaches, IsRelated}
use Rattle.lw_counter.specs.Countermodel.{IsModelOf}
use Rattle.lw_counter.proofs.FragmentFormulas.{open_counters}
use Rattle.lw_counter.proofs.EdgePaths.{child_within, reaches_within}
use Rattle.lw_search.specs.Step.{askers}
use Rattle.lw_search.specs.Ranked.{IsGoal}
use Rattle.lw_search.specs.Explored.{HasHeights, IsExplored}
use Rattle.lw_search.proofs.ItemCounts.{few_askers}

-- a guard has the variables of its formula alone
guard_variables : (p : List ℕ) (x g : Signed) → guard_of x ≡ Some g → Occurs p g.1 → Occurs p x.1
guard_variables p (F, nec a) g e o =
    let same : (T, nec (impl a (nec a))) ≡ g = cc in
    let twice : Occurs p a ⊎ Occurs p a = subst (λ (y : Signed). Occurs p y.1) (sym same) o in
    elim twice [ inl l ↦ l | inr r ↦ r ]
guard_variables p (T, poss a) g e o =
    let same : (F, poss (conj (neg a) (poss a))) ≡ g = cc in
    let twice : Occurs p a ⊎ Occurs p a = subst (λ (y : Signed). Occurs p y.1) (sym same) o in
    elim twice [ inl l ↦ l | inr r ↦ r ]
guard_variables p _ g e o = cc

-- the letters of a closure are variables of the goal
letter_occurs : (L : Logic) (goal : Formula) (p : List ℕ) → IsOfClosure L goal (letter p) → Occurs p goal
letter_occurs L goal p (inl own) = (occurs_within p goal).1 own
letter_occurs L goal p (inr (x, g, e, h)) =
    let own = guarded L goal x g e in
    let inside : Occurs p x.1 = guard_variables p x g own.1 ((occurs_within p g.1).1 h) in
    (occurs_within p goal).1 (IsSubformula-trans (letter p) x.1 goal ((occurs_within p x.1).0 inside) own.0)

-- a chain that only goes down has no more worlds than its first is high, but for one
chain_short : (m : FiniteModel) (height : ℕ → ℕ) → ((w v : ℕ) → Sees m w v → w ≢ v → height v < height w) → (w : ℕ) (ws : List ℕ) → IsChain m (w ∷ ws) → length ws ≤ height w
chain_short m height down w [] c = omega arith
chain_short m height down w (v ∷ vs) c = omega (arith, down w v c.0 c.1, chain_short m height down v vs c.2)

chains_short : (m : FiniteModel) (height : ℕ → ℕ) (n k : ℕ) → ((w v : ℕ) → Sees m w v → w ≢ v → (height v < height w) × (height w ≤ n)) → n ≤ k → (w : ℕ) → HasChainsUpTo (k + 1) m w
chains_short m height n k down l w [] c = omega arith
chains_short m height n k down l w (v ∷ vs) c = omega (arith, (down w v c.0 c.1).1, chain_short m height (λ u x s d. (down u x s d).0) w (v ∷ vs) c)

module _ (L : Logic) (f : Fragment) (n : ℕ) (h : HasHeights n f) where
  -- an edge goes down, where there are no links
  edge_down : has_links L ≡ false → (w v : ℕ) → IsEdge L f w v → h.height v < h.height w
  edge_down none w v (inl e) = h.falls w v (child_within f v w e) e
  edge_down none w v (inr link) = absurd (false≢true (sym none ∙ link.0))

  path_down : has_links L ≡ false → (w v : ℕ) → Reaches (IsEdge L f) w v → h.height v < h.height w
  path_down none = reaches_within (IsEdge L f) (λ w v. h.height v < h.height w) (edge_down none) (λ w u v p q. omega arith)

-- so does the relation, from one world to another
related_down : (L : Logic) (f : Fragment) (n : ℕ) (h : HasHeights n f) → has_links L ≡ false → (w v : ℕ) → IsRelated L f w v → ¬ (w ≡ v) → ¬ (L ≡ S5) → h.height v < h.height w
related_down K f n h none w v r other apart = edge_down K f n h none w v r
related_down KT f n h none w v r other apart = elim r [ inl same ↦ absurd (other same) | inr e ↦ edge_down KT f n h none w v e ]
related_down S4 f n h none w v r other apart = absurd (false≢true (sym none))
related_down S5 f n h none w v r other apart = absurd (apart refl)
related_down K4 f n h none w v r other apart = absurd (false≢true (sym none))
related_down KD f n h none w v r other apart = elim r [ inl e ↦ edge_down KD f n h none w v e | inr alone ↦ absurd (other alone.0) ]
related_down GL f n h none w v r other apart = path_down GL f n h none w v r
related_down Grz f n h none w v r other apart = elim r [ inl same ↦ absurd (other same) | inr p ↦ path_down Grz f n h none w v p ]

module _ (ts : List Formula) (t : Table) (keeps : Keeps ts t) (n : ℕ) (X : Set ℕ) (f : Fragment) (goal_set : IsGoal ts t X) (e : IsExplored t n X f) (m : FiniteModel) (is : IsModelOf t.logic f (formulas_of ts t f) m) where
  abbrev s : ℕ → Signed
  s = signed_of ts t

  abbrev goal : Formula
  goal = tree_at ts t.goal

  -- the goal's item stands in the root's label
  at_root : Contains ((world_at f 0).label) goal_set.item
  at_root =
      (list_any-Contains (λ j. nat_eq j goal_set.item) goal_set.item (λ j. Decides-eqb j goal_set.item) ((world_at f 0).label)).0
      (e.root goal_set.item (subst (λ Y. IsTrue (Y goal_set.item)) (sym goal_set.only) (or_left (nat_eq goal_set.item goal_set.item) false (eq-eqb goal_set.item goal_set.item refl))))

  explored_refutes : Refutes t.logic m 0 goal
  explored_refutes =
      let made = open_counters ts t keeps f e.items e.is_open m is in
      record {
        in_class = made.0;
        within = omega (arith, is.worlds, e.is_open.some);
        fails = subst (HoldsSigned m 0) goal_set.signed (made.1 0 goal_set.item e.is_open.some at_root);
      }

  facts_within : HasFactsOf goal m
  facts_within = All-members (λ x. Occurs x.1 goal) m.facts (λ x there. (
      let at = ((is.facts x.0 x.1).0 there).1 in
      let found = (list_any-Decides (λ i. same_signed (s i) (T, letter x.1)) (λ i. s i ≡ (T, letter x.1)) (λ i. same_signed-Decides (s i) (T, letter x.1)) ((world_at f x.0).label)).0 at in
      let below : found.0 < item_count t = All-contains (λ i. i < item_count t) ((world_at f x.0).label) found.0 (e.items x.0) found.1 in
      letter_occurs t.logic goal x.1 ((keeps.exact (letter x.1)).0 (found.0 / 2, omega arith, ap (λ (y : Signed). y.1) found.2))
      ))

  module _ (few : n ≤ step_bound t.logic (modal_count goal) (depth goal)) where
    worlds_within : m.worlds ≤ world_bound t.logic (modal_count goal) (depth goal)
    worlds_within =
        let wide : tree_size (askers t) n ≤ tree_size (modal_count goal) n = tree_wider (askers t) (modal_count goal) n (few_askers ts t keeps) in
        let deep : tree_size (modal_count goal) n ≤ tree_size (modal_count goal) (step_bound t.logic (modal_count goal) (depth goal)) = tree_deeper (modal_count goal) n (step_bound t.logic (modal_count goal) (depth goal)) few in
        omega (arith, is.worlds, e.few, wide, deep)

    -- a step of a chain goes down from a world that is no higher than n
    steps_down : has_links t.logic ≡ false → ¬ (t.logic ≡ S5) → (w v : ℕ) → Sees m w v → w ≢ v → (e.heights.height v < e.heights.height w) × (e.heights.height w ≤ n)
    steps_down none apart w v sees other =
        let r = (is.sees w v).0 sees in
        (related_down t.logic f n e.heights none w v r.2 other apart, e.heights.low w r.0)

    chains_within : (L : Logic) → t.logic ≡ L → HasShortChains L goal m 0
    chains_within K q = chains_short m e.heights.height n (depth goal) (steps_down (ap has_links q) (λ p. cc)) (subst (λ L. n ≤ step_bound L (modal_count goal) (depth goal)) q few) 0
    chains_within KT q = chains_short m e.heights.height n (depth goal) (steps_down (ap has_links q) (λ p. cc)) (subst (λ L. n ≤ step_bound L (modal_count goal) (depth goal)) q few) 0
    chains_within S4 q = tt
    chains_within S5 q = tt
    chains_within GL q = chains_short m e.heights.height n (modal_count goal) (steps_down (ap has_links q) (λ p. cc)) (subst (λ L. n ≤ step_bound L (modal_count goal) (depth goal)) q few)
    chains_within K4 q = tt
    chains_within KD q = chains_short m e.heights.height n (depth goal) (steps_down (ap has_links q) (λ p. cc)) (subst (λ L. n ≤ step_bound L (modal_count goal) (depth goal)) q few) 0
    chains_within Grz q = chains_short m e.heights.height n (modal_count goal) (steps_down (ap has_links q) (λ p. cc)) (subst (λ L. n ≤ step_bound L (modal_count goal) (depth goal)) q few)

    -- the model refutes the goal, within the bounds on worlds, facts and chains
    pub explored_answers : Refutes t.logic m 0 goal × IsWithinBounds t.logic goal m × HasShortChains t.logic goal m 0
    explored_answers = (explored_refutes, record { worlds = worlds_within; facts = facts_within }, chains_within t.logic refl)
