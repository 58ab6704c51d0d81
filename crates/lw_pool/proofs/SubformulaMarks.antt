-- Marks at the ids of subformulas, handed down from parents to children.
use Rattle.std.proofs.Common.{◌≡◌, ℕ, ◌+◌, ◌<◌, ◌≤◌, suc, zero, ◌⊎◌, inl, inr, Bool, true, false, cond, List, length, get_or, set, refl, sym, ap, subst, ◌∙◌, arith}
use Rattle.std.proofs.lemmas.Bool.{cases_order, cond_both, false≢true}
use Rattle.std.proofs.lemmas.List.{length-set, get_or-set_same, get_or-set_other, get_or_past}
use Rattle.lw_formula.specs.Formula.{Formula, falsum, IsOperand, IsSubformula}
use Rattle.lw_formula.proofs.SubformulaLists.{IsSubformula-trans}
use Rattle.lw_pool.specs.declared.id.FormId.{FormId}
use Rattle.lw_pool.specs.declared.node.Node.{Node}
use Rattle.lw_pool.specs.declared.node.Node.TheVariants.{Var, Bot, Top, Not, And, Or, Imp, Iff, Nec, Poss}
use Rattle.lw_pool.specs.Region.{tree_at, IsLive, AreIdsExact, AreOperandsBelow, AreChildrenBelow, tree_of_node, is_marked, AreMarks}
use Rattle.lw_pool.specs.Private.IdWalk.{with_children}
use Rattle.lw_pool.proofs.NodeChildren.{IsChild, child_of_operand, operand_of_child, child_below}
use Rattle.lw_pool.proofs.SubformulasBelow.{subformula_cases, operand_within}

-- the marks of the subformulas of the formula at a, when the ids from i on have handed theirs to their children
pub record AreMarksFrom (i : ℕ) (ts : List Formula) (a : FormId) (marks : List Bool) : Type 0 where
  pub long : length marks ≡ a.0 + 1
  pub own : is_marked marks a.0 ≡ true
  pub sound : (b : FormId) → is_marked marks b.0 ≡ true → IsSubformula (tree_at ts b) (tree_at ts a)
  pub handed : (b : FormId) → i ≤ b.0 → is_marked marks b.0 ≡ true →
      (c : FormId) → IsLive ts c → IsOperand (tree_at ts c) (tree_at ts b) → is_marked marks c.0 ≡ true

-- what is marked is within the list
pub within : (marks : List Bool) (k : ℕ) → is_marked marks k ≡ true → k < length marks
within marks k m = elim (cases_order k (length marks)) [
  | inl e ↦ absurd (past (omega arith))
  | inr q ↦ elim q [ inl l ↦ l | inr l ↦ absurd (past (omega arith)) ]
]
  where
    past : length marks ≤ k → ⊥
    past l = false≢true (sym (get_or_past marks k false l) ∙ m)

kept_by_set : (marks : List Bool) (i k : ℕ) → is_marked marks k ≡ true → is_marked (set marks i true) k ≡ true
kept_by_set marks i k m =
    let l : k < length marks = within marks k m in
    elim (cases_order k i) [
      | inl e ↦ subst (λ (j : ℕ). is_marked (set marks j true) k ≡ true) e (get_or-set_same marks k true false l)
      | inr q ↦ elim q [
        | inl n ↦ get_or-set_other marks i k true false (λ e. let bad : ⊥ = omega arith in bad) ∙ m
        | inr n ↦ get_or-set_other marks i k true false (λ e. let bad : ⊥ = omega arith in bad) ∙ m
      ]
    ]

only_by_set : (marks : List Bool) (i k : ℕ) → is_marked (set marks i true) k ≡ true → (is_marked marks k ≡ true) ⊎ (i ≡ k)
only_by_set marks i k m =
    elim (cases_order k i) [
      | inl e ↦ inr (sym e)
      | inr q ↦ elim q [
        | inl n ↦ inl (sym (get_or-set_other marks i k true false (λ e. let bad : ⊥ = omega arith in bad)) ∙ m)
        | inr n ↦ inl (sym (get_or-set_other marks i k true false (λ e. let bad : ⊥ = omega arith in bad)) ∙ m)
      ]
    ]

-- what the children's marks do to the others
pub record HandsDown (n : Node) (old new : List Bool) : Type 0 where
  pub long : length new ≡ length old
  pub kept : (k : ℕ) → is_marked old k ≡ true → is_marked new k ≡ true
  pub child : (b : FormId) → IsChild b n → b.0 < length old → is_marked new b.0 ≡ true
  pub only : (k : ℕ) → is_marked new k ≡ true → (is_marked old k ≡ true) ⊎ ((b : FormId) × IsChild b n × (b.0 ≡ k))

to_none : (n : Node) (marks : List Bool) → ((b : FormId) → IsChild b n → ⊥) → HandsDown n marks marks
to_none n marks childless = record { long = refl; kept = λ k m. m; child = λ b h l. absurd (childless b h); only = λ k m. inl m }

to_one : (n : Node) (a : FormId) (marks : List Bool) → IsChild a n → ((b : FormId) → IsChild b n → b ≡ a) → HandsDown n marks (set marks a.0 true)
to_one n a marks is all = record {
  long = length-set marks a.0 true;
  kept = λ k m. kept_by_set marks a.0 k m;
  child = λ b h l. subst (λ (x : FormId). x.0 < length marks → is_marked (set marks a.0 true) x.0 ≡ true) (sym (all b h)) (λ v. get_or-set_same marks a.0 true false v) l;
  only = λ k m. elim (only_by_set marks a.0 k m) [ inl o ↦ inl o | inr e ↦ inr (a, is, e) ];
}

to_two : (n : Node) (a b : FormId) (marks : List Bool) → IsChild a n → IsChild b n → ((c : FormId) → IsChild c n → (c ≡ a) ⊎ (c ≡ b)) →
    HandsDown n marks (set (set marks a.0 true) b.0 true)
to_two n a b marks first second all =
    let one : List Bool = set marks a.0 true in
    let same : length one ≡ length marks = length-set marks a.0 true in
    record {
      long = length-set one b.0 true ∙ same;
      kept = λ k m. kept_by_set one b.0 k (kept_by_set marks a.0 k m);
      child = λ c h l. elim (all c h) [
        | inl e ↦ subst (λ (x : FormId). x.0 < length marks → is_marked (set one b.0 true) x.0 ≡ true) (sym e)
            (λ v. kept_by_set one b.0 a.0 (get_or-set_same marks a.0 true false v)) l
        | inr e ↦ subst (λ (x : FormId). x.0 < length marks → is_marked (set one b.0 true) x.0 ≡ true) (sym e)
            (λ v. get_or-set_same one b.0 true false (omega arith)) l
      ];
      only = λ k m. elim (only_by_set one b.0 k m) [
        | inl o ↦ elim (only_by_set marks a.0 k o) [ inl p ↦ inl p | inr e ↦ inr (a, first, e) ]
        | inr e ↦ inr (b, second, e)
      ];
    }

pub hands_down : (n : Node) (marks : List Bool) → HandsDown n marks (with_children n marks)
hands_down (Var p) marks = to_none (Var p) marks (λ b h. h)
hands_down Bot marks = to_none Bot marks (λ b h. h)
hands_down Top marks = to_none Top marks (λ b h. h)
hands_down (Not a) marks = to_one (Not a) a marks refl (λ b h. h)
hands_down (And a b) marks = to_two (And a b) a b marks (inl refl) (inr refl) (λ c h. h)
hands_down (Or a b) marks = to_two (Or a b) a b marks (inl refl) (inr refl) (λ c h. h)
hands_down (Imp a b) marks = to_two (Imp a b) a b marks (inl refl) (inr refl) (λ c h. h)
hands_down (Iff a b) marks = to_two (Iff a b) a b marks (inl refl) (inr refl) (λ c h. h)
hands_down (Nec a) marks = to_one (Nec a) a marks refl (λ b h. h)
hands_down (Poss a) marks = to_one (Poss a) a marks refl (λ b h. h)

-- a place that isn't marked has nothing to hand down
unmarked : (ts : List Formula) (a : FormId) (i : ℕ) (marks : List Bool) → is_marked marks i ≡ false → AreMarksFrom (i + 1) ts a marks → AreMarksFrom i ts a marks
unmarked ts a i marks f h = record {
  long = h.long;
  own = h.own;
  sound = h.sound;
  handed = λ b l m c v o. elim (cases_order b.0 i) [
    | inl e ↦ absurd (false≢true (sym f ∙ ap (is_marked marks) (sym e) ∙ m))
    | inr q ↦ elim q [ inl n ↦ absurd (omega arith) | inr n ↦ h.handed b (omega arith) m c v o ]
  ];
}

-- what is marked after a node has handed its mark down is a subformula
sound_after : (ts : List Formula) (a : FormId) (i : FormId) (n : Node) (old new : List Bool) → tree_of_node ts n ≡ tree_at ts i → is_marked old i.0 ≡ true →
    ((b : FormId) → is_marked old b.0 ≡ true → IsSubformula (tree_at ts b) (tree_at ts a)) → HandsDown n old new →
    (b : FormId) → is_marked new b.0 ≡ true → IsSubformula (tree_at ts b) (tree_at ts a)
sound_after ts a i n old new t here sound d b m =
    elim (d.only b.0 m) [
      | inl o ↦ sound b o
      | inr k ↦
          let same : tree_at ts k.0 ≡ tree_at ts b = ap (λ (j : ℕ). get_or ts j falsum) k.2 in
          let operand : IsOperand (tree_at ts k.0) (tree_at ts i) = subst (IsOperand (tree_at ts k.0)) t (operand_of_child ts n k.0 k.1) in
          let part : IsSubformula (tree_at ts k.0) (tree_at ts a) = IsSubformula-trans (tree_at ts k.0) (tree_at ts i) (tree_at ts a) (operand_within (tree_at ts k.0) (tree_at ts i) operand) (sound i here) in
          subst (λ (u : Formula). IsSubformula u (tree_at ts a)) same part
    ]

-- after a node has handed its mark down, the ids from its own on have handed theirs
handed_after : (ts : List Formula) (a : FormId) (i : FormId) (n : Node) (old new : List Bool) → AreIdsExact ts → length old ≤ length ts → tree_of_node ts n ≡ tree_at ts i → AreChildrenBelow i.0 n → i.0 < length old →
    AreMarksFrom (i.0 + 1) ts a old → HandsDown n old new →
    (b : FormId) → i.0 ≤ b.0 → is_marked new b.0 ≡ true → (c : FormId) → IsLive ts c → IsOperand (tree_at ts c) (tree_at ts b) → is_marked new c.0 ≡ true
handed_after ts a i n old new x short t below l h d b le m c v o =
    elim (d.only b.0 m) [
      | inl was ↦ elim (cases_order i.0 b.0) [
        | inl e ↦
            let same : tree_at ts b ≡ tree_of_node ts n = ap (λ (j : ℕ). get_or ts j falsum) (sym e) ∙ sym t in
            let k = child_of_operand ts n (tree_at ts c) (subst (IsOperand (tree_at ts c)) same o) in
            let small : k.0.0 < i.0 = child_below i.0 n k.0 below k.1 in
            let one : k.0 ≡ c = x k.0 c (omega arith) v k.2 in
            subst (λ (j : FormId). is_marked new j.0 ≡ true) one (d.child k.0 k.1 (omega arith))
        | inr q ↦ elim q [ inl n ↦ d.kept c.0 (h.handed b (omega arith) was c v o) | inr n ↦ absurd (omega arith) ]
      ]
      | inr k ↦ let small : k.0.0 < i.0 = child_below i.0 n k.0 below k.1 in absurd (omega (arith, small, k.2))
    ]

pub marks_step : (ts : List Formula) (a : FormId) (i : FormId) (n : Node) (old new : List Bool) → AreIdsExact ts → IsLive ts a → tree_of_node ts n ≡ tree_at ts i → AreChildrenBelow i.0 n →
    i.0 < length old → AreMarksFrom (i.0 + 1) ts a old → new ≡ cond (is_marked old i.0) (with_children n old) old → AreMarksFrom i.0 ts a new
marks_step ts a i n old new x v t below l h e =
    subst (AreMarksFrom i.0 ts a) (sym e)
    (cond_both (is_marked old i.0) (with_children n old) old (AreMarksFrom i.0 ts a)
    (λ here.
    let d : HandsDown n old (with_children n old) = hands_down n old in
    record {
      long = d.long ∙ h.long;
      own = d.kept a.0 h.own;
      sound = sound_after ts a i n old (with_children n old) t here h.sound d;
      handed = handed_after ts a i n old (with_children n old) x (omega (arith, h.long)) t below l h d;
    })
    (λ f. unmarked ts a i.0 old f h))

-- where all have handed their marks down, each subformula of what is marked is marked
complete_below : (ts : List Formula) (a : FormId) (marks : List Bool) → AreIdsExact ts → AreOperandsBelow ts → AreMarksFrom 0 ts a marks →
    (n : ℕ) (b : FormId) → b.0 < n → IsLive ts b → is_marked marks b.0 ≡ true → (c : FormId) → IsLive ts c → IsSubformula (tree_at ts c) (tree_at ts b) → is_marked marks c.0 ≡ true
complete_below ts a marks x o h zero b l vb m c vc s = absurd (omega arith)
complete_below ts a marks x o h (suc n) b l vb m c vc s =
    elim (subformula_cases (tree_at ts c) (tree_at ts b) s) [
      | inl e ↦ subst (λ (j : FormId). is_marked marks j.0 ≡ true) (x b c vb vc (sym e)) m
      | inr t ↦
          let d = o b vb t.0 t.1 in
          let vd : IsLive ts d.0 = omega (arith, d.1) in
          let md : is_marked marks d.0.0 ≡ true = h.handed b (omega arith) m d.0 vd (subst (λ (u : Formula). IsOperand u (tree_at ts b)) (sym d.2) t.1) in
          complete_below ts a marks x o h n d.0 (omega (arith, d.1)) vd md c vc (subst (IsSubformula (tree_at ts c)) (sym d.2) t.2)
    ]

pub marks_done : (ts : List Formula) (a : FormId) (marks : List Bool) → AreIdsExact ts → AreOperandsBelow ts → IsLive ts a → AreMarksFrom 0 ts a marks → AreMarks ts a marks
marks_done ts a marks x o v h = record {
  long = h.long;
  sound = h.sound;
  complete = λ b vb s. complete_below ts a marks x o h (a.0 + 1) a (omega arith) v h.own b vb s;
}
