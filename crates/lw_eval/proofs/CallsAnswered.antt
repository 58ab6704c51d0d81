-- What is found of the arguments is what the rows of functions say.
use Rattle.std.proofs.Common.{◌≡◌, ◌∙◌, sym, ap, ◌<◌, ◌≤◌, ℕ, List, [], ◌∷◌, ◌++◌, length, true, Result, Ok, Err}
use Rattle.lw_formula.specs.declared.sign.Sign.{Sign}
use Rattle.lw_formula.specs.declared.logic.Logic.{Logic}
use Rattle.lw_formula.specs.Signed.{Signed}
use Rattle.lw_formula.specs.Formula.{Formula, impl, subformula_count}
use Rattle.lw_formula.specs.Variables.{AreVariables}
use Rattle.lw_formula.specs.Validity.{Valid, Refutes}
use Rattle.lw_model.specs.Bounds.{IsWithinBounds, HasShortChains}
use Rattle.lw_pool.specs.declared.id.FormId.{FormId}
use Rattle.lw_pool.specs.Region.{tree_at, IsLive}
use Rattle.lw_formula.specs.FiniteModel.{FiniteModel}
use Rattle.lw_pool.specs.declared.id.SignedId.{SignedId}
use Rattle.lw_proof.specs.Tree.{Tree, map_tree}
use Rattle.lw_proof.specs.Lean.{Lean}
use Rattle.lw_proof.specs.Pooled.{proof_at, IsProofLive}
use Rattle.lw_proof.proofs.MappedProofs.{twice_mapped, each_mapped}
use Rattle.lw_counter.specs.Answers.{IsAnswerTo}
use Rattle.lw_value.specs.Certified.{pair_of}
use Rattle.lw_counter.specs.declared.answer.Answer.{Answer}
use Rattle.lw_counter.specs.declared.answer.Answer.TheVariants.{Yes, No}
use Rattle.lw_decide.specs.Decided.{TellsValidity}
use Rattle.lw_closure.specs.declared.fault.TheConstants.{SUBFORMULA_LIMIT}
use Rattle.lw_fix.specs.Outermost.{StandsBare, Modalised, outermost}
use Rattle.lw_fix.specs.FixedPoint.{fix}
use Rattle.lw_fix.specs.FixFaults.{IsWithinLimit, box_limit}
use Rattle.lw_trans.specs.declared.connective.Connective.{Connective}
use Rattle.lw_trans.specs.Connectives.{IsIntuitionistic, IsFirst}
use Rattle.lw_trans.specs.Translations.{goedel}
use Rattle.lw_interp.specs.Interpolant.{has_interpolants}
use Rattle.lw_ast.specs.declared.function.Function.TheVariants.{Append}
use Rattle.lw_value.specs.declared.value.Items.{Items}
use Rattle.lw_value.specs.declared.value.Value.{Value}
use Rattle.lw_value.specs.declared.value.Value.TheVariants as kind
use Rattle.lw_value.specs.Views.{value_of}
use Rattle.lw_value.specs.Values.{Evidence, proved, refuted, Val, Vals, vals, formula, certificate, naught, seen, seen_all, AreLive}
use Rattle.lw_eval.specs.declared.trouble.Trouble.TheVariants.{NotModalised, TooManyBoxes, NotIntuitionistic}
use Rattle.lw_eval.specs.Evaluations.{Evaluation, Got, Fails, Is}
use Rattle.lw_eval.specs.declared.fault.EvalFault.{EvalFault}
use Rattle.lw_eval.specs.declared.fault.EvalFault.TheVariants.{Troubled, Memory}
use Rattle.lw_eval.specs.Private.Given.{Faults, Gives, IsCall, IsUndecided, IsShown, letters_of, shown_in}
use Rattle.lw_eval.specs.Calls.{Decided, Certifies, Interpolates, Supported, Fixes, Translates, Lists}
use Rattle.lw_eval.specs.Operators.{list_of}
use Rattle.lw_eval.proofs.ItemsSeen.{list_with_last}

pub goedel_of : (a x : Formula) → x ≡ goedel a → IsIntuitionistic a → Translates a (Got (formula x))
goedel_of a x p h = rw p (Translates.translated h)

pub fix_of : (p : List ℕ) (a x : Formula) → x ≡ fix p a → IsWithinLimit p a → Fixes p a (Got (formula x))
fix_of p a x q h = rw q (Fixes.fixed h)

pub bare_variable : (p : List ℕ) (a : Formula) → StandsBare p a → Fixes p a (Fails NotModalised)
bare_variable p a h = Fixes.bare h

pub many_boxes : (p : List ℕ) (a : Formula) (n : ℕ) → Modalised p a → n ≡ length (outermost p a) → box_limit < n → Fixes p a (Fails (TooManyBoxes n))
many_boxes p a n m q h = rw q (Fixes.many m (rw (sym q) h))

pub undecided_answer : (a : Formula) (answer : Evaluation (Val Formula) → Type 0) (fault : EvalFault) → IsUndecided a fault → Faults (Decided a answer) fault
undecided_answer a answer (Troubled t) h = rw h.0 (Decided.too_large h.1)
undecided_answer a answer Memory h = tt

-- an answer tells whether the formula is valid
pub yes_tells : (l : Logic) (a : Formula) (answer : Answer) (P : Tree SignedId) → answer ≡ Yes P → TellsValidity l a answer → Valid l a
yes_tells l a answer P p h = rw p at h

pub no_tells : (l : Logic) (a : Formula) (answer : Answer) (m : FiniteModel) (w : ℕ) → answer ≡ No m w → TellsValidity l a answer → ¬ Valid l a
no_tells l a answer m w p h = rw p at h

-- a signed formula, by its id
abbrev signed_pair : List Formula → Sign × FormId → Signed
signed_pair ts s = (s.0, tree_at ts s.1)

-- what an answer shows
pub proof_shown : (l : Logic) (ts : List Formula) (a : Formula) (answer : Answer) (P : Tree SignedId) → answer ≡ Yes P → IsAnswerTo l ts a answer →
    IsShown l ts a (proved (map_tree pair_of P))
proof_shown l ts a answer P p h =
    let k : IsProofLive ts P × Lean l (proof_at ts P) a = rw p at h in (
      each_mapped pair_of (λ s. IsLive ts s.form) (λ s. IsLive ts s.1) (λ s live. live) P k.0,
      rw (twice_mapped pair_of (signed_pair ts) P) (Certifies.by_proof (proof_at ts P) k.1),
    )

pub model_shown : (l : Logic) (ts : List Formula) (a : Formula) (answer : Answer) (m : FiniteModel) (w : ℕ) → answer ≡ No m w → IsAnswerTo l ts a answer →
    IsShown l ts a (refuted m w)
model_shown l ts a answer m w p h =
    let k : Refutes l m w a × IsWithinBounds l a m × HasShortChains l a m w = rw p at h in
    (tt, Certifies.by_model m w k.0 k.1)

-- a certificate of the program, as it is seen
pub certificate_answer : (l : Logic) (a : Formula) (ts : List Formula) (v : Val FormId) (f : FormId) (e : Evidence FormId) → subformula_count a ≤ SUBFORMULA_LIMIT →
    v ≡ certificate l f e → tree_at ts f ≡ a → IsShown l ts a e → Decided a (Certifies l a) (Got (seen ts v))
certificate_answer l a ts v f e few p q h = rw (p, q) (Decided.decided few h.1)

pub certificate_live : (l : Logic) (a : Formula) (ts : List Formula) (v : Val FormId) (f : FormId) (e : Evidence FormId) →
    v ≡ certificate l f e → IsLive ts f → IsShown l ts a e → AreLive ts v
certificate_live l a ts v f e p live h = rw p (live, h.0)

pub modal_formula : (a : Formula) (what : Connective) → IsFirst what a → Translates a (Fails (NotIntuitionistic what))
modal_formula a what h = Translates.modal what h

-- a logic that has interpolants here
pub supported_faults : (l : Logic) (answer : Evaluation (Val Formula) → Type 0) (fault : EvalFault) → has_interpolants l ≡ true → Faults answer fault → Faults (Supported l answer) fault
supported_faults l answer (Troubled t) p h = Supported.supported p h
supported_faults l answer Memory p h = tt

pub decided_gives : (a : Formula) (ts : List Formula) (answer : Evaluation (Val Formula) → Type 0) (r : Result Value EvalFault) → subformula_count a ≤ SUBFORMULA_LIMIT →
    Gives (shown_in ts) answer r → Gives (shown_in ts) (Decided a answer) r
decided_gives a ts answer (Ok v) few h = Decided.decided few h
decided_gives a ts answer (Err (Troubled t)) few h = Decided.decided few h
decided_gives a ts answer (Err Memory) few h = tt

pub supported_gives : (l : Logic) (ts : List Formula) (answer : Evaluation (Val Formula) → Type 0) (r : Result Value EvalFault) → has_interpolants l ≡ true →
    Gives (shown_in ts) answer r → Gives (shown_in ts) (Supported l answer) r
supported_gives l ts answer (Ok v) p h = Supported.supported p h
supported_gives l ts answer (Err (Troubled t)) p h = Supported.supported p h
supported_gives l ts answer (Err Memory) p h = tt

-- what is read off an answer
pub no_interpolant : (l : Logic) (a b : Formula) (answer : Answer) (m : FiniteModel) (w : ℕ) → answer ≡ No m w → TellsValidity l (impl a b) answer → Interpolates l a b (Got naught)
no_interpolant l a b answer m w p h = Interpolates.none (no_tells l (impl a b) answer m w p h)

pub lean_answer : (l : Logic) (ts : List Formula) (a : Formula) (answer : Answer) (P : Tree SignedId) → answer ≡ Yes P → IsAnswerTo l ts a answer → Lean l (proof_at ts P) a
lean_answer l ts a answer P p h = let k : IsProofLive ts P × Lean l (proof_at ts P) a = rw p at h in k.1

-- the variables of a formula, as a list
pub listed : (a : Formula) (ts : List Formula) (names : List (List ℕ)) (vs : Vals Formula) (r : Result Value EvalFault) → AreVariables a names → vs ≡ vals (letters_of names) →
    Gives (shown_in ts) (Is (list_of vs)) r → Gives (shown_in ts) (Lists a) r
listed a ts names vs (Ok v) h p k = Lists.lists names h (k ∙ ap list_of p)
listed a ts names vs (Err (Troubled t)) h p k = Lists.lists names h (k ∙ ap list_of p)
listed a ts names vs (Err Memory) h p k = tt

same_list : (ts : List Formula) (vs ws : Vals Formula) (r : Result Value EvalFault) → ws ≡ vs → Gives (shown_in ts) (Is (list_of ws)) r → Gives (shown_in ts) (Is (list_of vs)) r
same_list ts vs ws r p h = rw (sym p) h

-- a list with one more value behind it
pub appended : (ts : List Formula) (list last : Value) (before : Items) (old new : List (Val FormId)) (w : Val FormId) (r : Result Value EvalFault) → list ≡ kind.Items before →
    old ≡ before → w ≡ value_of last → new ≡ old ++ w ∷ [] → Gives (shown_in ts) (Is (list_of (seen_all ts (vals new)))) r → IsCall Append ts ts (list ∷ last ∷ []) r
appended ts list last before old new w r p q s t h =
    rw p (same_list ts _ (seen_all ts (vals new)) r (list_with_last ts before new (value_of last) w (t ∙ ap (λ vs. vs ++ w ∷ []) q) s) h)

-- what is said of a formula is said of one that is equal
pub few_of : (a b : Formula) → b ≡ a → subformula_count b ≤ SUBFORMULA_LIMIT → subformula_count a ≤ SUBFORMULA_LIMIT
few_of a b p h = rw (sym p) h

pub undecided_of : (a b : Formula) (fault : EvalFault) → b ≡ a → IsUndecided b fault → IsUndecided a fault
undecided_of a b fault p h = rw (sym p) h

pub interpolates_of : (l : Logic) (ts : List Formula) (a b c d : Formula) (r : Result Value EvalFault) → c ≡ a → d ≡ b →
    Gives (shown_in ts) (Interpolates l c d) r → Gives (shown_in ts) (Interpolates l a b) r
interpolates_of l ts a b c d r p q h = rw (sym p, sym q) h
