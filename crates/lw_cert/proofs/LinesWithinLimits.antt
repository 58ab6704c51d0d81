-- The lines that are written of a certificate keep what they have to keep, where they are within the limits.
use Rattle.std.proofs.Common.{◌≡◌, ℕ, suc, ◌<◌, ◌^◌, List, [], ◌∷◌, length, sym, subst, arith, All}
use Rattle.std.proofs.lemmas.List.Elements.{All-head, All-tail}
use Rattle.lw_formula.specs.Formula.{Formula}
use Rattle.lw_formula.specs.Signed.{Signed}
use Rattle.lw_formula.specs.Variables.{HasNames}
use Rattle.lw_pool.specs.declared.id.FormId.{FormId}
use Rattle.lw_pool.specs.declared.id.SignedId.{SignedId}
use Rattle.lw_pool.specs.Region.{tree_at, signed_at, IsLive, AreNamed}
use Rattle.lw_proof.specs.Tree.{Tree, Forest, node, none, more, map_forest, EachOfAll}
use Rattle.lw_proof.specs.Pooled.{proof_at, IsProofLive}
use Rattle.lw_read.specs.Grammar.{ReadsAs}
use Rattle.lw_read.specs.Laws as read
use Rattle.lw_read.specs.Text.{text_of}
use Rattle.lw_cert.specs.declared.certificate.Body.{Body}
use Rattle.lw_cert.specs.declared.certificate.Body.TheVariants.{Proved, Refuted}
use Rattle.lw_cert.specs.declared.certificate.Certificate.{Certificate}
use Rattle.lw_cert.specs.Lines.{Line, Row, heading, logic_is, formula_is, worlds_are, refuted_is, proof_follows, model_follows, step_is, IsRow, AreAllowed, IsWithinLimits}
use Rattle.lw_cert.specs.Sheet.{Content, Steps, Table, steps, all_steps, rows_from, content_lines}
use Rattle.lw_cert.specs.Certificates.{IsContentOf}
use Rattle.lw_cert.specs.Written.{IsOrdered}
use Rattle.lw_cert.specs.Laws.{ReadsBack}
use Rattle.lw_cert.proofs.MachineRuns.{closing}
use Rattle.lw_cert.proofs.WrittenBack.{allowed-reads}

rows-allowed : (n i : ℕ) (rows : List Row) → All (IsRow n) rows → AreAllowed (rows_from n i rows closing)
rows-allowed n i [] all = (tt, (tt, tt))
rows-allowed n i (row ∷ rows) all = (All-head (IsRow n) row rows all, rows-allowed n (suc i) rows (All-tail (IsRow n) row rows all))

-- what is asked of each line, and of those behind it
first : (l : Line) (ls : List Line) → All IsWithinLimits (l ∷ ls) → IsWithinLimits l
first l ls all = All-head IsWithinLimits l ls all

others : (l : Line) (ls : List Line) → All IsWithinLimits (l ∷ ls) → All IsWithinLimits ls
others l ls all = All-tail IsWithinLimits l ls all

module _ (reads_back : (a : Formula) → HasNames a → read.ReadsBack a) (ts : List Formula) (named : AreNamed ts) where
  -- the text of a formula of the pool reads back where it has no fault
  reads : (id : FormId) (a : Formula) → IsLive ts id → tree_at ts id ≡ a → read.IsFaultless (text_of a) → ReadsAs (text_of a) a
  reads id a live is faultless = (reads_back a (subst HasNames is (named id live))).reads faultless

  mutual
    steps-allowed : (d : ℕ) (P : Tree SignedId) (rest : List Line) → IsProofLive ts P → (All IsWithinLimits rest → AreAllowed rest) → All IsWithinLimits (steps d (proof_at ts P) rest) → AreAllowed (steps d (proof_at ts P) rest)
    steps-allowed d (node r s Ps) rest live allowed all =
        let here = first (step_is d r (s.sign, tree_at ts s.form)) _ all in
        ((here.0, reads s.form (tree_at ts s.form) live.0 (λ i. tree_at ts s.form) here.1), forest-allowed (suc d) Ps rest live.1 allowed (others _ _ all))

    forest-allowed : (d : ℕ) (Ps : Forest SignedId) (rest : List Line) → EachOfAll (λ s. IsLive ts s.form) Ps → (All IsWithinLimits rest → AreAllowed rest) → All IsWithinLimits (all_steps d (map_forest (signed_at ts) Ps) rest) → AreAllowed (all_steps d (map_forest (signed_at ts) Ps) rest)
    forest-allowed d none rest live allowed all = allowed all
    forest-allowed d (more P Ps) rest live allowed all = steps-allowed d P _ live.0 (forest-allowed d Ps rest live.1 allowed) all

  content-allowed : (body : Body) (content : Content) → IsContentOf ts body content → IsOrdered content → All IsWithinLimits (content_lines content) → AreAllowed (content_lines content)
  content-allowed (Proved P) (Steps t) is ordered all =
      let Goal : Tree Signed → Type 0 = λ t. All IsWithinLimits (content_lines (Steps t)) → AreAllowed (content_lines (Steps t)) in
      subst Goal (sym is.1) (λ all. (tt, steps-allowed 1 P closing is.0 (λ all. (tt, (tt, tt))) (others proof_follows _ all))) all
  content-allowed (Proved P) (Table w rows) is ordered all = absurd is
  content-allowed (Refuted m w) (Steps t) is ordered all = absurd is
  content-allowed (Refuted m w) (Table v rows) is ordered all =
      let some : v < length rows = omega (arith, is.0, is.1, is.2) in
      let table = refuted_is (length rows) v ∷ rows_from (length rows) 0 rows closing in
      let countable : length rows < 2 ^ 64 = first (worlds_are (length rows)) table (others model_follows (worlds_are (length rows) ∷ table) all) in
      (tt, ((omega (arith, some), countable), (some, rows-allowed (length rows) 0 rows ordered)))

  pub within-reads : (c : Certificate) (text : List ℕ) → ReadsBack ts c text
  within-reads c text is regular all =
      let body = content_lines is.sheet.content in
      let goal = formula_is is.sheet.formula in
      let behind = others (logic_is is.sheet.logic) (goal ∷ body) (others heading (logic_is is.sheet.logic ∷ goal ∷ body) all) in
      let formula = reads c.formula is.sheet.formula is.says.formula.0 is.says.formula.1 (first goal body behind) in
      let content = content-allowed c.body is.sheet.content is.says.content is.ordered (others goal body behind) in
      allowed-reads ts c text is regular (tt, (tt, (formula, content)))
