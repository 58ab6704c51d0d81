-- What functions give for their arguments: one row each.
use Rattle.std.specs.Prelude.{◌≡◌, ℕ, ◌-◌, ◌^◌, ◌<◌, ◌≤◌, min, List, [], ◌∷◌, length, map, true, false}
use Rattle.lw_formula.specs.declared.logic.Logic.{Logic}
use Rattle.lw_formula.specs.Formula.{Formula, letter, impl, depth, nodes, subformula_count}
use Rattle.lw_formula.specs.FiniteModel.{FiniteModel}
use Rattle.lw_formula.specs.Signed.{Signed}
use Rattle.lw_formula.specs.Variables.{AreVariables, replace}
use Rattle.lw_formula.specs.Validity.{Valid, Refutes}
use Rattle.lw_model.specs.Bounds.{IsWithinBounds}
use Rattle.lw_proof.specs.Tree.{Tree, lines}
use Rattle.lw_proof.specs.Lean.{Lean}
use Rattle.lw_closure.specs.declared.fault.TheConstants.{SUBFORMULA_LIMIT}
use Rattle.lw_interp.specs.Interpolant.{Interpolant, has_interpolants}
use Rattle.lw_interp.specs.Laws.{node_bound}
use Rattle.lw_fix.specs.Outermost.{StandsBare, Modalised, outermost}
use Rattle.lw_fix.specs.FixedPoint.{fix}
use Rattle.lw_fix.specs.FixFaults.{IsWithinLimit, box_limit}
use Rattle.lw_normal.specs.NegationNormalForm.{nnf}
use Rattle.lw_normal.specs.Simplification.{simplify}
use Rattle.lw_trans.specs.declared.connective.Connective.{Connective}
use Rattle.lw_trans.specs.Connectives.{IsIntuitionistic, IsFirst}
use Rattle.lw_trans.specs.Translations.{goedel, boxdot}
use Rattle.lw_bisim.specs.Quotient.{Quotient, IsQuotient, place_of}
use Rattle.lw_share.specs.SetCounts.{CountsSets}
use Rattle.lw_trace.specs.LetterlessTruth.{IsLetterless, trace_of}
use Rattle.lw_trace.specs.LetterlessForm.{letterless_of}
use Rattle.lw_trace.specs.TraceFaults.{IsFirstVariable}
use Rattle.lw_ast.specs.declared.function.Function.{Function}
use Rattle.lw_ast.specs.declared.function.Function.TheVariants.{Provable, Certificate, Interpolate, Fixpoint, Nnf, Simplify, Goedel, Boxdot, Substitute, Vars, Depth, Count, Length, Item, Append, Smallest, Trace, Letterless, Shared}
use Rattle.lw_value.specs.Values.{Evidence, proved, refuted, Val, Vals, formula, truth, number, items, certificate, naught, vals, item_at, with_last}
use Rattle.lw_value.specs.ValueTexts.{count_of}
use Rattle.lw_eval.specs.declared.trouble.Trouble.TheVariants.{Range, TooLarge, NoInterpolants, NotModalised, TooManyBoxes, NotIntuitionistic, NotLetterless}
use Rattle.lw_eval.specs.Evaluations.{Evaluation, Got, Fails, found_or, Is, Given, Tells}
use Rattle.lw_eval.specs.Operands.{formula_in, variable_in, number_in, list_in, logic_in, certificate_in, any_in, one, two, three}
use Rattle.lw_eval.specs.Operators.{list_of}

-- a formula is decided where it hasn't too many distinct subformulas
pub data Decided (a : Formula) (answer : Evaluation (Val Formula) → Type 0) : Evaluation (Val Formula) → Type 0 where
  decided : {r : Evaluation (Val Formula)} → subformula_count a ≤ SUBFORMULA_LIMIT → answer r → Decided a answer r
  too_large : SUBFORMULA_LIMIT < subformula_count a → Decided a answer (Fails (TooLarge (subformula_count a)))

-- a certificate: any lean proof of the formula, or any model within the bounds that refutes it
pub data Certifies (l : Logic) (a : Formula) : Evaluation (Val Formula) → Type 0 where
  by_proof : (P : Tree Signed) → Lean l P a → Certifies l a (Got (certificate l a (proved P)))
  by_model : (m : FiniteModel) (w : ℕ) → Refutes l m w a → IsWithinBounds l a m → Certifies l a (Got (certificate l a (refuted m w)))

-- an interpolant of a and b, with no more nodes than are read off some lean proof; none where a doesn't imply b
pub data Interpolates (l : Logic) (a b : Formula) : Evaluation (Val Formula) → Type 0 where
  between : (i : Formula) (P : Tree Signed) → Interpolant l a i b → Lean l P (impl a b) → nodes i ≤ node_bound P a b →
      Interpolates l a b (Got (formula i))
  none : ¬ Valid l (impl a b) → Interpolates l a b (Got naught)

-- the logic has interpolants here, or is refused by name
pub data Supported (l : Logic) (answer : Evaluation (Val Formula) → Type 0) : Evaluation (Val Formula) → Type 0 where
  supported : {r : Evaluation (Val Formula)} → has_interpolants l ≡ true → answer r → Supported l answer r
  unsupported : has_interpolants l ≡ false → Supported l answer (Fails (NoInterpolants l))

-- the fixed point of the formula for p in GL
pub data Fixes (p : List ℕ) (a : Formula) : Evaluation (Val Formula) → Type 0 where
  fixed : IsWithinLimit p a → Fixes p a (Got (formula (fix p a)))
  bare : StandsBare p a → Fixes p a (Fails NotModalised)
  many : Modalised p a → box_limit < length (outermost p a) → Fixes p a (Fails (TooManyBoxes (length (outermost p a))))

-- Gödel's translation of an intuitionistic formula
pub data Translates (a : Formula) : Evaluation (Val Formula) → Type 0 where
  translated : IsIntuitionistic a → Translates a (Got (formula (goedel a)))
  modal : (what : Connective) → IsFirst what a → Translates a (Fails (NotIntuitionistic what))

-- a formula without variables is looked at in GL; another is refused by its first variable in byte order
pub data Traced (a : Formula) (answer : Evaluation (Val Formula) → Type 0) : Evaluation (Val Formula) → Type 0 where
  traced : {r : Evaluation (Val Formula)} → IsLetterless a → answer r → Traced a answer r
  lettered : (p : List ℕ) → IsFirstVariable p a → Traced a answer (Fails (NotLetterless p))

-- its truth value at great heights, and then the heights at which it has the other one
abbrev pub trace_values : Formula → List (Val Formula)
trace_values a = truth (trace_of a).rest ∷ map number (trace_of a).heights

-- the certificate with the quotient of its model, and the class of its world; with a proof it stays as it is
pub data Shrinks (l : Logic) (a : Formula) : Evidence Formula → Evaluation (Val Formula) → Type 0 where
  proof : {P : Tree Signed} → Shrinks l a (proved P) (Got (certificate l a (proved P)))
  quotient : {m : FiniteModel} {w : ℕ} (q : Quotient) → IsQuotient m q →
      Shrinks l a (refuted m w) (Got (certificate l a (refuted q.model (place_of q.places w))))

-- how many steps its proof has, up to 2^64 - 1, and how many sets they close, each counted once; none where it has a model
pub data Shares (l : Logic) (a : Formula) : Evidence Formula → Evaluation (Val Formula) → Type 0 where
  proof : {P : Tree Signed} (sets : ℕ) → CountsSets l a P sets →
      Shares l a (proved P) (Got (items (vals (number (min (lines P) (2 ^ 64 - 1)) ∷ number sets ∷ []))))
  model : {m : FiniteModel} {w : ℕ} → Shares l a (refuted m w) (Got naught)

-- the variables of the formula as formulas, each once, in byte order
pub data Lists (a : Formula) : Evaluation (Val Formula) → Type 0 where
  lists : {r : Evaluation (Val Formula)} (names : List (List ℕ)) → AreVariables a names →
      Is (list_of (vals (map (λ p. formula (letter p)) names))) r → Lists a r

-- the table of functions: the kinds of the arguments, and then the value or the function's own refusal
abbrev pub Calls : Function → Vals Formula → Evaluation (Val Formula) → Type 0
Calls Provable vs = Given (two logic_in formula_in vs) (λ x. Decided x.1 (Tells (Valid x.0 x.1)))
Calls Certificate vs = Given (two logic_in formula_in vs) (λ x. Decided x.1 (Certifies x.0 x.1))
Calls Interpolate vs = Given (three logic_in formula_in formula_in vs)
    (λ x. Supported x.0 (Decided (impl x.1.0 x.1.1) (Interpolates x.0 x.1.0 x.1.1)))
Calls Fixpoint vs = Given (two variable_in formula_in vs) (λ x. Fixes x.0 x.1)
Calls Nnf vs = Given (one formula_in vs) (λ a. Is (Got (formula (nnf a))))
Calls Simplify vs = Given (one formula_in vs) (λ a. Is (Got (formula (simplify a))))
Calls Goedel vs = Given (one formula_in vs) (λ a. Translates a)
Calls Boxdot vs = Given (one formula_in vs) (λ a. Is (Got (formula (boxdot a))))
Calls Substitute vs = Given (three formula_in variable_in formula_in vs) (λ x. Is (Got (formula (replace x.1.0 x.1.1 x.0))))
Calls Vars vs = Given (one formula_in vs) (λ a. Lists a)
Calls Depth vs = Given (one formula_in vs) (λ a. Is (Got (number (depth a))))
Calls Count vs = Given (one formula_in vs) (λ a. Is (Got (number (subformula_count a))))
Calls Length vs = Given (one list_in vs) (λ xs. Is (Got (number (count_of xs))))
Calls Item vs = Given (two list_in number_in vs) (λ x. Is (found_or Range (item_at x.0 x.1)))
Calls Append vs = Given (two list_in any_in vs) (λ x. Is (list_of (with_last x.0 x.1)))
Calls Smallest vs = Given (one certificate_in vs) (λ c. Shrinks c.0 c.1 c.2)
Calls Trace vs = Given (one formula_in vs) (λ a. Traced a (Decided a (Is (list_of (vals (trace_values a))))))
Calls Letterless vs = Given (one formula_in vs) (λ a. Traced a (Decided a (Is (Got (formula (letterless_of a))))))
Calls Shared vs = Given (one certificate_in vs) (λ c. Shares c.0 c.1 c.2)
