-- What the machine takes are the lines of certificates: what leads to the end from a state, and that each state on the
-- way leads there.
use Rattle.std.proofs.Common.{◌≡◌, ℕ, zero, suc, ◌+◌, Bool, true, false, nat_eq, ◌&&◌, cond, List, [], ◌∷◌, ◌++◌, length, replicate, refl, sym, ◌∙◌, ap, subst, arith, add-one}
use Rattle.std.proofs.lemmas.Bool.Decides.{nat_tests}
use Rattle.std.proofs.lemmas.List.{length-replicate}
use Rattle.lw_formula.specs.declared.logic.Logic.{Logic}
use Rattle.lw_formula.specs.declared.sign.Sign.TheVariants.{T}
use Rattle.lw_formula.specs.Formula.{Formula, verum}
use Rattle.lw_formula.specs.Signed.{Signed}
use Rattle.lw_proof.specs.declared.rule.Rule.{Rule}
use Rattle.lw_proof.specs.Tree.{Tree, Forest, node, none, more, count_of}
use Rattle.lw_proof.specs.Break.{arity}
use Rattle.lw_cert.specs.Lines.{Line, heading, logic_is, formula_is, proof_follows, step_is, model_follows, worlds_are, refuted_is, world_is, ending, nothing, Row}
use Rattle.lw_cert.specs.Sheet.{Sheet, Content, Steps, Table, steps, all_steps, rows_from, content_lines, lines, IsFull, AreFull, IsRegular}
use Rattle.lw_cert.specs.Private.LineMachine.{State, Start, Headed, Chosen, Named, Proving, Sizing, Sized, Listing, Ended, Over, Wrong, step, run, IsOnTrack}

abbrev pub closing : List Line
closing = ending ∷ nothing ∷ []

-- proofs at these depths, and then the rest
abbrev pub many : List ℕ → Forest Signed → List Line → List Line
many [] ts rest = rest
many (d ∷ ds) none rest = rest
many (d ∷ ds) (more t ts) rest = steps d t (many ds ts rest)

-- the lines with which a certificate goes on from a state
abbrev pub Fits : State → List Line → Type 0
Fits Start rest = (c : Sheet) × IsRegular c.content × (rest ≡ lines c)
Fits Headed rest = (L : Logic) × (a : Formula) × (b : Content) × IsRegular b × (rest ≡ logic_is L ∷ formula_is a ∷ content_lines b)
Fits Chosen rest = (a : Formula) × (b : Content) × IsRegular b × (rest ≡ formula_is a ∷ content_lines b)
Fits Named rest = (b : Content) × IsRegular b × (rest ≡ content_lines b)
Fits (Proving ds) rest = (ts : Forest Signed) × AreFull ts × (count_of ts ≡ length ds) × (rest ≡ many ds ts closing)
Fits Sizing rest = (w : ℕ) × (rows : List Row) × (rest ≡ worlds_are (length rows) ∷ refuted_is (length rows) w ∷ rows_from (length rows) 0 rows closing)
Fits (Sized n) rest = (w : ℕ) × (rows : List Row) × (length rows ≡ n) × (rest ≡ refuted_is n w ∷ rows_from n 0 rows closing)
Fits (Listing n i k) rest = (rows : List Row) × (length rows ≡ k) × (rest ≡ rows_from n i rows closing)
Fits Ended rest = rest ≡ nothing ∷ []
Fits Over rest = rest ≡ []
Fits Wrong rest = ⊥

-- the first k proofs, and those behind them
record Split (d k : ℕ) (ds : List ℕ) (ts : Forest Signed) : Type 0 where
  pub front : Forest Signed
  pub back : Forest Signed
  pub many_front : count_of front ≡ k
  pub many_back : count_of back ≡ length ds
  pub full_front : AreFull front
  pub full_back : AreFull back
  pub lines : (rest : List Line) → many (replicate k d ++ ds) ts rest ≡ all_steps d front (many ds back rest)

split : (d k : ℕ) (ds : List ℕ) (ts : Forest Signed) → AreFull ts → count_of ts ≡ length (replicate k d ++ ds) → Split d k ds ts
split d zero ds ts full count = record {
  front = none;
  back = ts;
  many_front = refl;
  many_back = count;
  full_front = tt;
  full_back = full;
  lines = λ rest. refl;
}
split d (suc k) ds none full count = absurd (omega arith)
split d (suc k) ds (more t ts) full count =
    let more_of = split d k ds ts full.1 (omega (arith, count)) in
    record {
      front = more t more_of.front;
      back = more_of.back;
      many_front = omega (arith, more_of.many_front);
      many_back = more_of.many_back;
      full_front = (full.0, more_of.full_front);
      full_back = more_of.full_back;
      lines = λ rest. ap (steps d t) (more_of.lines rest);
    }

-- one line back
back : (l : Line) (s : State) (rest : List Line) → Fits (step l s) rest → Fits s (l ∷ rest)
back heading Start rest h = (record { logic = h.0; formula = h.1; content = h.2 }, h.3, ap (λ ls. heading ∷ ls) h.4)
back (logic_is L) Headed rest h = (L, h.0, h.1, h.2, ap (λ ls. logic_is L ∷ ls) h.3)
back (formula_is a) Chosen rest h = (a, h.0, h.1, ap (λ ls. formula_is a ∷ ls) h.2)
back proof_follows Named rest (none, full, count, is) = absurd (omega arith)
back proof_follows Named rest (more t none, full, count, is) = (Steps t, full.0, ap (λ ls. proof_follows ∷ ls) is)
back proof_follows Named rest (more t (more u ts), full, count, is) = absurd (omega arith)
back model_follows Named rest h = (Table h.0 h.1, tt, ap (λ ls. model_follows ∷ ls) h.2)
back (step_is d r s) (Proving (e ∷ ds)) rest h =
    let Goal : Bool → Type 0 = λ b. nat_eq d e ≡ b → Fits (cond b (Proving (replicate (arity r) (suc e) ++ ds)) Wrong) rest → Fits (Proving (e ∷ ds)) (step_is d r s ∷ rest) in
    elim (nat_eq d e) as Goal [
      | true ↦ λ is h. let same : d ≡ e = grind (arith, nat_tests) in
          let parts = split (suc e) (arity r) ds h.0 h.1 h.2 in
          (more (node r s parts.front) parts.back, ((parts.many_front, parts.full_front), parts.full_back), ap (λ k. k + 1) parts.many_back ∙ add-one (length ds), ap (λ k. step_is k r s ∷ rest) same ∙ ap (λ ls. step_is e r s ∷ ls) (h.3 ∙ parts.lines closing))
      | false ↦ λ is h. absurd h
    ] refl h
back ending (Proving []) rest h = (none, tt, refl, ap (λ ls. ending ∷ ls) h)
back (worlds_are n) Sizing rest h = (h.0, h.1, ap (λ ls. worlds_are n ∷ ls) h.3 ∙ ap (λ k. worlds_are k ∷ refuted_is k h.0 ∷ rows_from k 0 h.1 closing) (sym h.2))
back (refuted_is n w) (Sized m) rest h =
    let Goal : Bool → Type 0 = λ b. nat_eq n m ≡ b → Fits (cond b (Listing m 0 m) Wrong) rest → Fits (Sized m) (refuted_is n w ∷ rest) in
    elim (nat_eq n m) as Goal [
      | true ↦ λ is h. let same : n ≡ m = grind (arith, nat_tests) in (w, h.0, h.1, ap (λ k. refuted_is k w ∷ rest) same ∙ ap (λ ls. refuted_is m w ∷ ls) h.2)
      | false ↦ λ is h. absurd h
    ] refl h
back (world_is n w row) (Listing m i (suc k)) rest h =
    let Goal : Bool → Bool → Type 0 = λ b c. nat_eq n m ≡ b → nat_eq w i ≡ c → Fits (cond (b && c) (Listing m (suc i) k) Wrong) rest → Fits (Listing m i (suc k)) (world_is n w row ∷ rest) in
    elim (nat_eq n m) as (λ b. Goal b (nat_eq w i)) [
      | true ↦ elim (nat_eq w i) as (λ c. Goal true c) [
        | true ↦ λ is at h. let same : n ≡ m = grind (arith, nat_tests) in let here : w ≡ i = grind (arith, nat_tests) in
            (row ∷ h.0, ap suc h.1, (λ j. world_is (same j) (here j) row ∷ rest) ∙ ap (λ ls. world_is m i row ∷ ls) h.2)
        | false ↦ λ is at h. absurd h
      ]
      | false ↦ λ is at h. absurd h
    ] refl refl h
back ending (Listing m i zero) rest h = ([], refl, ap (λ ls. ending ∷ ls) h)
back nothing Ended rest h = ap (λ ls. nothing ∷ ls) h
back _ _ rest h = absurd h

-- some lines back
pub backs : (ls : List Line) (s : State) (rest : List Line) → Fits (run ls s) rest → Fits s (ls ++ rest)
backs [] s rest h = h
backs (l ∷ ls) s rest h = back l s (ls ++ rest) (backs ls (step l s) rest h)

-- a step without subproofs for each depth
leaves : List ℕ → Forest Signed
leaves [] = none
leaves (d ∷ ds) = more (node Rule.Close (T, verum) none) (leaves ds)

leaves-count : (ds : List ℕ) → count_of (leaves ds) ≡ length ds
unfolding leaves
leaves-count [] = refl
leaves-count (d ∷ ds) = let h = leaves-count ds in omega arith

leaves-full : (ds : List ℕ) → AreFull (leaves ds)
unfolding leaves
leaves-full [] = tt
leaves-full (d ∷ ds) = ((refl, tt), leaves-full ds)

blank : Row
blank = record { sees = []; names = [] }

-- each state on the way leads to the end
pub completes : (s : State) → IsOnTrack s → (rest : List Line) × Fits s rest
completes Start on = let c : Sheet = record { logic = Logic.K; formula = verum; content = Table 0 [] } in (lines c, (c, tt, refl))
completes Headed on = (logic_is Logic.K ∷ formula_is verum ∷ content_lines (Table 0 []), (Logic.K, verum, Table 0 [], tt, refl))
completes Chosen on = (formula_is verum ∷ content_lines (Table 0 []), (verum, Table 0 [], tt, refl))
completes Named on = (content_lines (Table 0 []), (Table 0 [], tt, refl))
completes (Proving ds) on = (many ds (leaves ds) closing, (leaves ds, leaves-full ds, leaves-count ds, refl))
completes Sizing on = (worlds_are 0 ∷ refuted_is 0 0 ∷ closing, (0, [], refl))
completes (Sized n) on = (refuted_is n 0 ∷ rows_from n 0 (replicate n blank) closing, (0, replicate n blank, length-replicate n blank, refl))
completes (Listing n i k) on = (rows_from n i (replicate k blank) closing, (replicate k blank, length-replicate k blank, refl))
completes Ended on = (nothing ∷ [], refl)
completes Over on = ([], refl)
completes Wrong on = absurd on

mutual
  run-steps : (d : ℕ) (t : Tree Signed) → IsFull t → (ds : List ℕ) (rest : List Line) → run (steps d t rest) (Proving (d ∷ ds)) ≡ run rest (Proving ds)
  run-steps d (node r s ts) full ds rest =
      let same : nat_eq d d ≡ true = grind (arith, nat_tests) in
      ap (λ b. run (all_steps (suc d) ts rest) (cond b (Proving (replicate (arity r) (suc d) ++ ds)) Wrong)) same
      ∙ ap (λ k. run (all_steps (suc d) ts rest) (Proving (replicate k (suc d) ++ ds))) (sym full.0)
      ∙ run-all (suc d) ts full.1 ds rest

  run-all : (d : ℕ) (ts : Forest Signed) → AreFull ts → (ds : List ℕ) (rest : List Line) → run (all_steps d ts rest) (Proving (replicate (count_of ts) d ++ ds)) ≡ run rest (Proving ds)
  run-all d none full ds rest = refl
  run-all d (more t ts) full ds rest =
      ap (λ k. run (steps d t (all_steps d ts rest)) (Proving (replicate k d ++ ds))) (add-one (count_of ts))
      ∙ run-steps d t full.0 (replicate (count_of ts) d ++ ds) (all_steps d ts rest)
      ∙ run-all d ts full.1 ds rest

run-rows : (n i : ℕ) (rows : List Row) → run (rows_from n i rows closing) (Listing n i (length rows)) ≡ Over
run-rows n i [] = refl
run-rows n i (row ∷ rows) =
    let same : nat_eq n n ≡ true = grind (arith, nat_tests) in
    let here : nat_eq i i ≡ true = grind (arith, nat_tests) in
    (λ j. run (rows_from n (suc i) rows closing) (cond (same j && here j) (Listing n (suc i) (length rows)) Wrong)) ∙ run-rows n (suc i) rows

-- a certificate's lines lead to the end
pub accepted : (c : Sheet) → IsRegular c.content → run (lines c) Start ≡ Over
accepted c regular = of_content c.content regular
  where
    of_content : (b : Content) → IsRegular b → run (content_lines b) Named ≡ Over
    of_content (Steps t) full = run-steps 1 t full [] closing
    of_content (Table w rows) full =
        let same : nat_eq (length rows) (length rows) ≡ true = grind (arith, nat_tests) in
        ap (λ b. run (rows_from (length rows) 0 rows closing) (cond b (Listing (length rows) 0 (length rows)) Wrong)) same ∙ run-rows (length rows) 0 rows

pub run-append : (ls ms : List Line) (s : State) → run (ls ++ ms) s ≡ run ms (run ls s)
run-append [] ms s = refl
run-append (l ∷ ls) ms s = run-append ls ms (step l s)

step-wrong : (l : Line) → step l Wrong ≡ Wrong
step-wrong nothing = refl
step-wrong _ = refl

pub run-wrong : (ls : List Line) → run ls Wrong ≡ Wrong
run-wrong [] = refl
run-wrong (l ∷ ls) = ap (run ls) (step-wrong l) ∙ run-wrong ls

-- what leads to a state on the way leads over states on the way
pub on-before : (ls : List Line) (s : State) → IsOnTrack (run ls s) → IsOnTrack s
on-before ls Wrong on = absurd (subst IsOnTrack (run-wrong ls) on)
on-before ls _ on = tt
