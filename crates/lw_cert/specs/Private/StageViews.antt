-- What private contracts see of what the lines so far say.
use Rattle.std.specs.Prelude.{◌≡◌, ◌≢◌, ℕ, ◌+◌, ◌-◌, ◌<◌, ◌≤◌, true, false, Option, None, Some, List, [], ◌∷◌, ◌++◌, length, map, reverse, take, drop, ⊤}
use Rattle.lw_formula.specs.Formula.{Formula}
use Rattle.lw_formula.specs.Signed.{Signed}
use Rattle.lw_pool.specs.declared.id.FormId.{FormId}
use Rattle.lw_pool.specs.declared.id.SignedId.{SignedId}
use Rattle.lw_pool.specs.Region.{tree_at, IsLive, signed_at}
use Rattle.lw_proof.specs.declared.rule.Rule.{Rule}
use Rattle.lw_proof.specs.Tree.{Tree, node, forest}
use Rattle.lw_proof.specs.Break.{arity}
use Rattle.lw_read.specs.Grammar.{ReadsAs}
use Rattle.lw_read.specs.Text.{text_of}
use Rattle.lw_cert.specs.declared.stage.Head.{Head}
use Rattle.lw_cert.specs.declared.stage.Step.{Step}
use Rattle.lw_cert.specs.declared.stage.Stage.{Stage}
use Rattle.lw_cert.specs.declared.stage.Table.{Table}
use Rattle.lw_cert.specs.declared.certificate.Body.TheVariants as body
use Rattle.lw_formula.specs.FiniteModel.{FiniteModel}
use Rattle.lw_cert.specs.declared.stage.Stage.TheVariants as stage
use Rattle.lw_cert.specs.declared.fault.CertFault.{CertFault}
use Rattle.lw_cert.specs.declared.fault.CertFault.TheVariants as fault
use Rattle.lw_cert.specs.Lines.{Line, heading, logic_is, formula_is, proof_follows, step_is, model_follows, worlds_are, refuted_is, nothing, Row, Piece, Whole, Cut, Stop, say, IsAllowed, AreAllowed}
use Rattle.lw_cert.specs.Sheet.{Sheet, lines, rows_from, IsRegular}
use Rattle.lw_cert.specs.CertificateFaults.{IsFine}
use Rattle.lw_cert.specs.Certificates.{AreRowsOf, IsSheetOf}
use Rattle.lw_cert.specs.Private.LineMachine.{State, Start, Headed, Chosen, Named, Proving, Sizing, Sized, Listing, Ended, step, run, IsOnTrack, is_modelling}

-- the text isn't the printed text of a formula that has no fault
abbrev pub IsNoFormula : List ℕ → Type 0
IsNoFormula text = (a : Formula) → ReadsAs (text_of a) a → text ≢ text_of a

-- the id's formula has this printed text, which has no fault
pub record IsReadAt (ts : List Formula) (text : List ℕ) (id : FormId) : Type 0 where
  pub live : IsLive ts id
  pub said : text ≡ text_of (tree_at ts id)
  pub reads : ReadsAs (text_of (tree_at ts id)) (tree_at ts id)

abbrev pub state_of : Stage → State
state_of stage.Start = Start
state_of stage.Headed = Headed
state_of (stage.Chosen L) = Chosen
state_of (stage.Named h) = Named
state_of (stage.Proving h ds steps) = Proving (reverse ds.items)
state_of (stage.Sizing h) = Sizing
state_of (stage.Counted h n) = Sized n
state_of (stage.Listing h t) = Listing t.model.worlds t.next (t.model.worlds - t.next)
state_of (stage.Ended c) = Ended

-- the first lines, and then the rest
abbrev pub opening : List Formula → Head → List Line → List Line
opening ts h rest = heading ∷ logic_is h.logic ∷ formula_is (tree_at ts h.formula) ∷ rest

-- a step by its rule and its signed formula
abbrev pub shown : List Formula → Step → Rule × Signed
shown ts s = (s.rule, signed_at ts s.principal)

-- the steps that lines say
abbrev pub steps_in : List Line → List (Rule × Signed)
steps_in [] = []
steps_in (step_is d r s ∷ ls) = (r, s) ∷ steps_in ls
steps_in (l ∷ ls) = steps_in ls

-- the pool has the steps' formulas
abbrev pub AreLiveSteps : List Formula → List Step → Type 0
AreLiveSteps ts [] = ⊤
AreLiveSteps ts (s ∷ ss) = IsLive ts s.principal.form × AreLiveSteps ts ss

-- the lines are those that the stage was reached by
abbrev pub Tells : List Formula → Stage → List Line → Type 0
Tells ts stage.Start ls = ls ≡ []
Tells ts stage.Headed ls = ls ≡ heading ∷ []
Tells ts (stage.Chosen L) ls = ls ≡ heading ∷ logic_is L ∷ []
Tells ts (stage.Named h) ls = IsLive ts h.formula × (ls ≡ opening ts h [])
Tells ts (stage.Proving h ds steps) ls =
    IsLive ts h.formula × AreLiveSteps ts steps.items × ((tail : List Line) × (ls ≡ opening ts h (proof_follows ∷ tail)) × (steps_in tail ≡ map (shown ts) steps.items))
Tells ts (stage.Sizing h) ls = IsLive ts h.formula × (ls ≡ opening ts h (model_follows ∷ []))
Tells ts (stage.Counted h n) ls = IsLive ts h.formula × (ls ≡ opening ts h (model_follows ∷ worlds_are n ∷ []))
Tells ts (stage.Listing h t) ls =
    IsLive ts h.formula × (t.next ≤ t.model.worlds) × (t.refuted < t.model.worlds)
    × ((rows : List Row) × (length rows ≡ t.next) × AreRowsOf t.model rows
    × (ls ≡ opening ts h (model_follows ∷ worlds_are t.model.worlds ∷ refuted_is t.model.worlds t.refuted ∷ rows_from t.model.worlds 0 rows [])))
Tells ts (stage.Ended c) ls = (sheet : Sheet) × IsSheetOf ts c sheet × IsRegular sheet.content × (ls ++ nothing ∷ [] ≡ lines sheet)

-- the stage is where these lines lead to
pub record Told (ts : List Formula) (stage : Stage) (ls : List Line) : Type 0 where
  pub ran : run ls Start ≡ state_of stage
  pub allowed : AreAllowed ls
  pub tells : Tells ts stage ls

-- no line of these bytes goes on from the state
abbrev pub Blocks : Piece → State → Type 0
Blocks p s = (l : Line) → say l ≡ p → IsAllowed l → IsOnTrack (step l s) → ⊥

-- a line of these bytes leads from one stage to another
abbrev pub Leads : List ℕ → List Formula → Stage → List Formula → Stage → Type 0
Leads bytes old from new to = (l : Line) × (say l ≡ Whole bytes) × ((ls : List Line) → Told old from ls → Told new to (ls ++ l ∷ []))

-- the next stage, where a line of these bytes leads to one; where none does, the state takes no such line
abbrev pub IsNext : List ℕ → List Formula → Stage → List Formula → Option Stage → Type 0
IsNext bytes old from new None = (ls : List Line) → Told old from ls → Blocks (Whole bytes) (state_of from)
IsNext bytes old from new (Some to) = Leads bytes old from new to

-- what stands behind so many lines is refused, as a line of a model or as another
abbrev pub Refuses : List Formula → Stage → Piece → ℕ → CertFault → Type 0
Refuses ts stage p at (fault.ModelText line) = (line ≡ at + 1) × (is_modelling (state_of stage) ≡ true) × ((ls : List Line) → Told ts stage ls → Blocks p (state_of stage))
Refuses ts stage p at (fault.ProofText line) = (line ≡ at + 1) × (is_modelling (state_of stage) ≡ false) × ((ls : List Line) → Told ts stage ls → Blocks p (state_of stage))
Refuses ts stage p at fault.Memory = ⊤

-- the fault is named after the state
abbrev pub IsNamedFault : Stage → ℕ → CertFault → Type 0
IsNamedFault stage line (fault.ModelText own) = (own ≡ line) × (is_modelling (state_of stage) ≡ true)
IsNamedFault stage line (fault.ProofText own) = (own ≡ line) × (is_modelling (state_of stage) ≡ false)
IsNamedFault stage line fault.Memory = ⊥

-- so many lines were fine, led to the stage, and left these pieces
pub record Reached (ps : List Piece) (at : ℕ) (rest : List Piece) (ts : List Formula) (stage : Stage) : Type 0 where
  pub first : List Line
  pub said : ps ≡ map say first ++ rest
  pub count : length first ≡ at
  pub told : Told ts stage first
  pub before : (i : ℕ) → i < at → IsFine ps i

-- the proofs that steps in pre-order make, each step with as many of the next ones as its rule has premises
abbrev pub grown : {A : Type 0} → List (Rule × A) → List (Tree A) → List (Tree A)
grown [] ts = ts
grown (q ∷ qs) ts = node q.0 q.1 (forest (take (arity q.0) (grown qs ts))) ∷ drop (arity q.0) (grown qs ts)

-- a step by its rule and its principal's id
abbrev pub ruled : Step → Rule × SignedId
ruled s = (s.rule, s.principal)

-- what stands at the end of a text without a line feed
abbrev pub last_piece : List ℕ → Piece
last_piece [] = Stop
last_piece (b ∷ bytes) = Cut (b ∷ bytes)

abbrev pub table : FiniteModel → ℕ → ℕ → Table
table m r i = record { model = m; refuted = r; next = i }

-- the stage has the first proof that the steps make
abbrev pub Concludes : Head → List Step → Stage → Type 0
Concludes h ss to =
    (P : Tree SignedId) × (Ps : List (Tree SignedId)) × (grown (map ruled ss) [] ≡ P ∷ Ps)
    × (to ≡ stage.Ended (record { logic = h.logic; formula = h.formula; body = body.Proved P }))
