-- Marks at the ids of what stands under no modality, handed down from formulas to operands.
use Rattle.std.proofs.Common.{◌≡◌, ℕ, ◌+◌, ◌<◌, ◌≤◌, suc, zero, ◌⊎◌, inl, inr, ⊎_elim, Bool, true, false, cond, List, length, get_or, refl, sym, ap, subst, ◌∙◌, arith}
use Rattle.std.proofs.lemmas.Bool.{cases_order, cond_both, false≢true}
use Rattle.lw_formula.specs.Formula.{Formula, letter, falsum, verum, neg, conj, disj, impl, equi, nec, poss, is_modal, IsOperand}
use Rattle.lw_pool.specs.declared.id.FormId.{FormId}
use Rattle.lw_pool.specs.declared.node.Node.{Node}
use Rattle.lw_pool.specs.declared.node.Node.TheVariants.{Var, Bot, Top, Not, And, Or, Imp, Iff, Nec, Poss}
use Rattle.lw_pool.specs.Region.{tree_at, IsLive, AreIdsExact, AreOperandsBelow, AreChildrenBelow, tree_of_node, is_marked}
use Rattle.lw_pool.specs.Private.IdWalk.{with_children}
use Rattle.lw_pool.proofs.NodeChildren.{child_of_operand, operand_of_child, child_below}
use Rattle.lw_pool.proofs.SubformulaMarks.{HandsDown, hands_down}
use Rattle.lw_fix.specs.Outermost.{IsOutermost}
use Rattle.lw_fix.specs.Private.OutermostIds.{AreBareMarks, with_bare_children}

-- what is outermost in an operand of what begins with no modality is outermost in it
IsOutermost-operand : (m c a : Formula) → is_modal a ≡ false → IsOperand c a → IsOutermost m c → IsOutermost m a
IsOutermost-operand m c (letter p) plain o h = absurd o
IsOutermost-operand m c falsum plain o h = absurd o
IsOutermost-operand m c verum plain o h = absurd o
IsOutermost-operand m c (neg a) plain o h = subst (IsOutermost m) o h
IsOutermost-operand m c (conj a b) plain o h = ⊎_elim (λ e. inl (subst (IsOutermost m) e h)) (λ e. inr (subst (IsOutermost m) e h)) o
IsOutermost-operand m c (disj a b) plain o h = ⊎_elim (λ e. inl (subst (IsOutermost m) e h)) (λ e. inr (subst (IsOutermost m) e h)) o
IsOutermost-operand m c (impl a b) plain o h = ⊎_elim (λ e. inl (subst (IsOutermost m) e h)) (λ e. inr (subst (IsOutermost m) e h)) o
IsOutermost-operand m c (equi a b) plain o h = ⊎_elim (λ e. inl (subst (IsOutermost m) e h)) (λ e. inr (subst (IsOutermost m) e h)) o
IsOutermost-operand m c (nec a) plain o h = absurd (false≢true (sym plain))
IsOutermost-operand m c (poss a) plain o h = absurd (false≢true (sym plain))

-- what is outermost is the formula itself, or is outermost in an operand
abbrev InOperand : Formula → Formula → Type 0
InOperand m a = (is_modal a ≡ false) × ((c : Formula) × IsOperand c a × IsOutermost m c)

IsOutermost-cases : (m a : Formula) → IsOutermost m a → (m ≡ a) ⊎ InOperand m a
IsOutermost-cases m (letter p) h = absurd h
IsOutermost-cases m falsum h = absurd h
IsOutermost-cases m verum h = absurd h
IsOutermost-cases m (neg a) h = inr (refl, (a, refl, h))
IsOutermost-cases m (conj a b) h = inr (refl, ⊎_elim (λ l. (a, inl refl, l)) (λ r. (b, inr refl, r)) h)
IsOutermost-cases m (disj a b) h = inr (refl, ⊎_elim (λ l. (a, inl refl, l)) (λ r. (b, inr refl, r)) h)
IsOutermost-cases m (impl a b) h = inr (refl, ⊎_elim (λ l. (a, inl refl, l)) (λ r. (b, inr refl, r)) h)
IsOutermost-cases m (equi a b) h = inr (refl, ⊎_elim (λ l. (a, inl refl, l)) (λ r. (b, inr refl, r)) h)
IsOutermost-cases m (nec a) h = inl h
IsOutermost-cases m (poss a) h = inl h

-- a modal node hands nothing down, and another what it always does
bare_or_all : (n : Node) (ts : List Formula) (marks : List Bool) →
    ((is_modal (tree_of_node ts n) ≡ true) × (with_bare_children n marks ≡ marks)) ⊎ ((is_modal (tree_of_node ts n) ≡ false) × (with_bare_children n marks ≡ with_children n marks))
bare_or_all (Var p) ts marks = inr (refl, refl)
bare_or_all Bot ts marks = inr (refl, refl)
bare_or_all Top ts marks = inr (refl, refl)
bare_or_all (Not a) ts marks = inr (refl, refl)
bare_or_all (And a b) ts marks = inr (refl, refl)
bare_or_all (Or a b) ts marks = inr (refl, refl)
bare_or_all (Imp a b) ts marks = inr (refl, refl)
bare_or_all (Iff a b) ts marks = inr (refl, refl)
bare_or_all (Nec a) ts marks = inl (refl, refl)
bare_or_all (Poss a) ts marks = inl (refl, refl)

-- the marks, when the ids from i on have handed theirs to their operands
pub record AreBareMarksFrom (i : ℕ) (ts : List Formula) (a : FormId) (marks : List Bool) : Type 0 where
  pub long : length marks ≡ a.0 + 1
  pub own : is_marked marks a.0 ≡ true
  pub sound : (b : FormId) (m : Formula) → is_marked marks b.0 ≡ true → IsOutermost m (tree_at ts b) → IsOutermost m (tree_at ts a)
  pub handed : (b : FormId) → i ≤ b.0 → is_marked marks b.0 ≡ true → is_modal (tree_at ts b) ≡ false →
      (c : FormId) → IsLive ts c → IsOperand (tree_at ts c) (tree_at ts b) → is_marked marks c.0 ≡ true

-- an id with nothing to hand down
idle : (ts : List Formula) (a i : FormId) (marks : List Bool) → (is_marked marks i.0 ≡ true → is_modal (tree_at ts i) ≡ false → ⊥) →
    AreBareMarksFrom (i.0 + 1) ts a marks → AreBareMarksFrom i.0 ts a marks
idle ts a i marks nothing h = record {
  long = h.long;
  own = h.own;
  sound = h.sound;
  handed = λ b l m plain c v o. elim (cases_order b.0 i.0) [
    | inl e ↦ absurd (nothing (ap (is_marked marks) (sym e) ∙ m) (ap (λ (k : ℕ). is_modal (get_or ts k falsum)) (sym e) ∙ plain))
    | inr q ↦ elim q [ inl n ↦ absurd (omega arith) | inr n ↦ h.handed b (omega arith) m plain c v o ]
  ];
}

-- an id that hands its mark to its operands
handing : (ts : List Formula) (a i : FormId) (n : Node) (old new : List Bool) → AreIdsExact ts → length old ≤ length ts → tree_of_node ts n ≡ tree_at ts i →
    AreChildrenBelow i.0 n → i.0 < length old → is_modal (tree_at ts i) ≡ false → is_marked old i.0 ≡ true →
    AreBareMarksFrom (i.0 + 1) ts a old → HandsDown n old new → AreBareMarksFrom i.0 ts a new
handing ts a i n old new x short t below l plain here h d = record {
  long = d.long ∙ h.long;
  own = d.kept a.0 h.own;
  sound = λ b m k o. elim (d.only b.0 k) [
    | inl was ↦ h.sound b m was o
    | inr c ↦
        let same : tree_at ts c.0 ≡ tree_at ts b = ap (λ (j : ℕ). get_or ts j falsum) c.2 in
        let operand : IsOperand (tree_at ts c.0) (tree_at ts i) = subst (IsOperand (tree_at ts c.0)) t (operand_of_child ts n c.0 c.1) in
        h.sound i m here (IsOutermost-operand m (tree_at ts c.0) (tree_at ts i) plain operand (subst (IsOutermost m) (sym same) o))
  ];
  handed = λ b le m level c v o. elim (d.only b.0 m) [
    | inl was ↦ elim (cases_order i.0 b.0) [
      | inl e ↦
          let same : tree_at ts b ≡ tree_of_node ts n = ap (λ (j : ℕ). get_or ts j falsum) (sym e) ∙ sym t in
          let k = child_of_operand ts n (tree_at ts c) (subst (IsOperand (tree_at ts c)) same o) in
          let small : k.0.0 < i.0 = child_below i.0 n k.0 below k.1 in
          let one : k.0 ≡ c = x k.0 c (omega arith) v k.2 in
          subst (λ (j : FormId). is_marked new j.0 ≡ true) one (d.child k.0 k.1 (omega arith))
      | inr q ↦ elim q [ inl n ↦ d.kept c.0 (h.handed b (omega arith) was level c v o) | inr n ↦ absurd (omega arith) ]
    ]
    | inr k ↦ let small : k.0.0 < i.0 = child_below i.0 n k.0 below k.1 in absurd (omega (arith, small, k.2))
  ];
}

pub bare_marks_step : (ts : List Formula) (a i : FormId) (n : Node) (old new : List Bool) → AreIdsExact ts → IsLive ts a → tree_of_node ts n ≡ tree_at ts i → AreChildrenBelow i.0 n →
    i.0 < length old → AreBareMarksFrom (i.0 + 1) ts a old → new ≡ cond (is_marked old i.0) (with_bare_children n old) old → AreBareMarksFrom i.0 ts a new
bare_marks_step ts a i n old new x v t below l h e =
    subst (AreBareMarksFrom i.0 ts a) (sym e)
    (cond_both (is_marked old i.0) (with_bare_children n old) old (AreBareMarksFrom i.0 ts a)
    (λ here.
    ⊎_elim
    (λ modal. subst (AreBareMarksFrom i.0 ts a) (sym modal.1) (idle ts a i old (λ _ plain. false≢true (sym plain ∙ ap is_modal (sym t) ∙ modal.0)) h))
    (λ plain.
    subst (AreBareMarksFrom i.0 ts a) (sym plain.1)
    (handing ts a i n old (with_children n old) x (omega (arith, h.long)) t below l (ap is_modal (sym t) ∙ plain.0) here h (hands_down n old)))
    (bare_or_all n ts old))
    (λ f. idle ts a i old (λ m _. false≢true (sym f ∙ m)) h))

-- where all have handed their marks down, what is outermost in what is marked is marked
each_below : (ts : List Formula) (a : FormId) (marks : List Bool) → AreOperandsBelow ts → AreBareMarksFrom 0 ts a marks →
    (n : ℕ) (b : FormId) → b.0 < n → IsLive ts b → is_marked marks b.0 ≡ true → (m : Formula) → IsOutermost m (tree_at ts b) → (c : FormId) × (is_marked marks c.0 ≡ true) × (tree_at ts c ≡ m)
each_below ts a marks o h zero b l vb k m s = absurd (omega arith)
each_below ts a marks o h (suc n) b l vb k m s =
    elim (IsOutermost-cases m (tree_at ts b) s) [
      | inl e ↦ (b, k, sym e)
      | inr t ↦
          let d = o b vb t.1.0 t.1.1 in
          let vd : IsLive ts d.0 = omega (arith, d.1) in
          let kd : is_marked marks d.0.0 ≡ true = h.handed b (omega arith) k t.0 d.0 vd (subst (λ (u : Formula). IsOperand u (tree_at ts b)) (sym d.2) t.1.1) in
          each_below ts a marks o h n d.0 (omega (arith, d.1)) vd kd m (subst (IsOutermost m) (sym d.2) t.1.2)
    ]

pub bare_marks_done : (ts : List Formula) (a : FormId) (marks : List Bool) → AreOperandsBelow ts → IsLive ts a → AreBareMarksFrom 0 ts a marks → AreBareMarks ts a marks
bare_marks_done ts a marks o v h = record {
  long = h.long;
  sound = h.sound;
  each = λ m s. each_below ts a marks o h (a.0 + 1) a (omega arith) v h.own m s;
}
