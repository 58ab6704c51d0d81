-- A text is told by one certificate, and has then no fault.
use Rattle.std.proofs.Common.{◌≡◌, ℕ, zero, suc, ◌+◌, ◌<◌, ◌^◌, nat_eq, if◌then◌else◌, List, [], ◌∷◌, ◌++◌, length, map, codes, refl, sym, ◌∙◌, ap, subst, arith, inl, inr}
use Rattle.std.proofs.lemmas.List.{append_cancel_left}
use Rattle.std.proofs.lemmas.Fmt.{decimal_injective}
use Rattle.std.specs.Fmt.{decimal}
use Rattle.lw_formula.specs.declared.logic.Logic.{Logic}
use Rattle.lw_formula.specs.declared.sign.Sign.{Sign}
use Rattle.lw_formula.specs.declared.sign.Sign.TheVariants.{T, F}
use Rattle.lw_formula.specs.Formula.{Formula}
use Rattle.lw_formula.specs.Logic.{word_of}
use Rattle.lw_formula.specs.Signed.{Signed}
use Rattle.lw_proof.specs.declared.rule.Rule.{Rule}
use Rattle.lw_read.specs.Lexemes.{Lexeme}
use Rattle.lw_read.specs.Laws.{HasOneTree}
use Rattle.lw_read.specs.Text.{text_of}
use Rattle.lw_read.specs.Grammar.{ReadsAs}
use Rattle.lw_cert.specs.declared.fault.CertFault.TheVariants as fault
use Rattle.lw_cert.specs.Lines.{Line, logic_is, formula_is, step_is, worlds_are, refuted_is, world_is, Row, say, rule_word, sign_word, step_text, world_text, numbers, words, pieces, Climb, Rise, IsRow, IsAllowed, AreAllowed}
use Rattle.lw_cert.specs.Sheet.{Sheet, Content, Steps, steps, rows_from, content_lines, lines, IsFull, IsRegular}
use Rattle.lw_cert.specs.Sheet as sheet
use Rattle.lw_cert.specs.Laws.{HasOneCertificate, HasOneAnswer}
use Rattle.lw_cert.specs.Private.LineMachine.{State, Start, Headed, Chosen, Named, Proving, Sizing, Sized, Listing, Ended, Over, Wrong, step, run, IsOnTrack}
use Rattle.lw_cert.proofs.MachineRuns.{closing, accepted, on-before}
use Rattle.lw_cert.proofs.LineByLine.{Takes, takes, first_byte, second_byte, first_piece, other_pieces, bytes_of, rule-told, proof-no-model, no-fault, step-step, step-refuted, step-world}
use Rattle.lw_cert.specs.Private.RowReading.{Ends}
use Rattle.lw_cert.proofs.LinesAndWords.{cut-same}
use Rattle.lw_cert.proofs.RowReading.{spaceless-decimal, spaceless-name, ends-numbers, ends-words, number-no-true, true-spaceless, tail-same}
use Rattle.lw_cert.proofs.PreOrder.{grown-steps}
use Rattle.lw_cert.proofs.LineParts.{parts-same, proof-told}

pub one-answer : (text : List ℕ) → HasOneAnswer text
one-answer text c reads (fault.ModelText line) told = absurd (no-fault (pieces text) c told.0 reads told.2)
one-answer text c reads (fault.ProofText line) told = absurd (no-fault (pieces text) c told.0 reads told.2)
one-answer text c reads fault.Memory told = refl

-- a logic whose word begins with k, by the byte behind it
abbrev k_back : ℕ → Logic
k_back c =
    if nat_eq c 116 then Logic.KT else
    if nat_eq c 52 then Logic.K4 else
    if nat_eq c 100 then Logic.KD else Logic.K

abbrev logic_back : List ℕ → Logic
logic_back bytes =
    if nat_eq (first_byte bytes) 107 then k_back (second_byte bytes) else
    if nat_eq (first_byte bytes) 115 then (if nat_eq (second_byte bytes) 52 then Logic.S4 else Logic.S5) else
    if nat_eq (second_byte bytes) 108 then Logic.GL else Logic.Grz

logic-is : (L : Logic) → logic_back (word_of L) ≡ L
logic-is L = grind arith

abbrev sign_back : List ℕ → Sign
sign_back bytes = if nat_eq (first_byte bytes) 84 then T else F

sign-is : (s : Sign) (rest : List ℕ) → sign_back (sign_word s ++ rest) ≡ s
sign-is T rest = refl
sign-is F rest = refl

-- the numbers of a row are told by their bytes
seen-told : (n least least' : ℕ) (vs us rest rest' : List ℕ) → n < 2 ^ 64 → Climb n least vs → Climb n least' us → (xs ys : List (List ℕ)) → rest ≡ words xs → rest' ≡ words ys → numbers vs (codes " true" ++ rest) ≡ numbers us (codes " true" ++ rest') → (vs ≡ us) × (rest ≡ rest')
seen-told n least least' [] [] rest rest' small c d xs ys e f same = (refl, append_cancel_left (codes " true") rest rest' same)
seen-told n least least' [] (u ∷ us) rest rest' small c d xs ys e f same =
    let within : u < 2 ^ 64 = let below = d.1 in omega (arith, below, small) in
    let bytes = tail-same 32 32 (codes "true" ++ rest) (decimal u ++ numbers us (codes " true" ++ rest')) same in
    let cut = cut-same (codes "true") (decimal u) rest (numbers us (codes " true" ++ rest')) true-spaceless (spaceless-decimal u) (subst Ends (sym e) (ends-words xs)) (ends-numbers us rest') bytes in
    absurd (number-no-true u within (sym cut.0))
seen-told n least least' (v ∷ vs) [] rest rest' small c d xs ys e f same =
    let within : v < 2 ^ 64 = let below = c.1 in omega (arith, below, small) in
    let bytes = tail-same 32 32 (decimal v ++ numbers vs (codes " true" ++ rest)) (codes "true" ++ rest') same in
    let cut = cut-same (decimal v) (codes "true") (numbers vs (codes " true" ++ rest)) rest' (spaceless-decimal v) true-spaceless (ends-numbers vs rest) (subst Ends (sym f) (ends-words ys)) bytes in
    absurd (number-no-true v within cut.0)
seen-told n least least' (v ∷ vs) (u ∷ us) rest rest' small c d xs ys e f same =
    let within : v < 2 ^ 64 = let below = c.1 in omega (arith, below, small) in
    let within' : u < 2 ^ 64 = let below = d.1 in omega (arith, below, small) in
    let bytes = tail-same 32 32 (decimal v ++ numbers vs (codes " true" ++ rest)) (decimal u ++ numbers us (codes " true" ++ rest')) same in
    let cut = cut-same (decimal v) (decimal u) (numbers vs (codes " true" ++ rest)) (numbers us (codes " true" ++ rest')) (spaceless-decimal v) (spaceless-decimal u) (ends-numbers vs rest) (ends-numbers us rest') bytes in
    let more = seen-told n (v + 1) (u + 1) vs us rest rest' small c.2 d.2 xs ys e f cut.1 in
    ((λ i. decimal_injective v u within within' cut.0 i ∷ more.0 i), more.1)

names-told : (last last' : List ℕ) (ps qs : List (List ℕ)) → Rise last ps → Rise last' qs → words ps ≡ words qs → ps ≡ qs
names-told last last' [] [] c d same = refl
names-told last last' [] (q ∷ qs) c d same = absurd (cc)
names-told last last' (p ∷ ps) [] c d same = absurd (cc)
names-told last last' (p ∷ ps) (q ∷ qs) c d same =
    let bytes = tail-same 32 32 (p ++ words ps) (q ++ words qs) same in
    let cut = cut-same p q (words ps) (words qs) (spaceless-name p c.0) (spaceless-name q d.0) (ends-words ps) (ends-words qs) bytes in
    λ i. cut.0 i ∷ names-told p q ps qs c.2 d.2 cut.1 i

row-told : (n w : ℕ) (r q : Row) → n < 2 ^ 64 → IsRow n r → IsRow n q → world_text w r ≡ world_text w q → r ≡ q
row-told n w r q small is is' same =
    let bytes = append_cancel_left (codes " sees") _ _ (append_cancel_left (decimal w) _ _ (append_cancel_left (codes "world ") _ _ same)) in
    let seen = seen-told n 0 0 r.sees q.sees (words r.names) (words q.names) small is.sees is'.sees r.names q.names refl refl bytes in
    λ i. record { sees = seen.0 i; names = names-told [] [] r.names q.names is.names is'.names seen.1 i }

-- the number of worlds that a state in a model knows can be counted
abbrev IsSmall : State → Type 0
IsSmall (Sized n) = n < 2 ^ 64
IsSmall (Listing n i k) = n < 2 ^ 64
IsSmall _ = Unit {0}

abbrev rows_in : List Line → List Row
rows_in (world_is n w row ∷ ls) = row ∷ rows_in ls
rows_in _ = []

rows-in : (n i : ℕ) (rows : List Row) → rows_in (rows_from n i rows closing) ≡ rows
rows-in n i [] = refl
rows-in n i (row ∷ rows) = ap (λ rs. row ∷ rs) (rows-in n (suc i) rows)

module _ (one_tree : (ts : List Lexeme) → HasOneTree ts) where
  formula-told : (a b : Formula) → ReadsAs (text_of a) a → ReadsAs (text_of b) b → text_of a ≡ text_of b → a ≡ b
  formula-told a b reads reads' same = one_tree _ a b reads.1 (subst (λ xs. ReadsAs xs b) (sym same) reads').1

  signed-told : (r t : Rule) (s u : Signed) → ReadsAs (text_of s.1) s.1 → ReadsAs (text_of u.1) u.1 → step_text r s ≡ step_text t u → (r ≡ t) × (s ≡ u)
  signed-told r t s u reads reads' same =
      let rule = rule-told r t _ _ same in
      let signed : sign_word s.0 ++ text_of s.1 ≡ sign_word u.0 ++ text_of u.1 = append_cancel_left (rule_word r) _ _ (same ∙ ap (λ k. rule_word k ++ (sign_word u.0 ++ text_of u.1)) (sym rule)) in
      let sign : s.0 ≡ u.0 = sym (sign-is s.0 (text_of s.1)) ∙ ap sign_back signed ∙ sign-is u.0 (text_of u.1) in
      let text = append_cancel_left (sign_word s.0) _ _ (signed ∙ ap (λ k. sign_word k ++ text_of u.1) (sym sign)) in
      (rule, λ i. (sign i, formula-told s.1 u.1 reads reads' text i))

  -- a line is told by its bytes and the state
  line-told : (s : State) (l m : Line) → IsSmall s → Takes s l → Takes s m → IsAllowed l → IsAllowed m → say l ≡ say m → l ≡ m
  line-told Start l m small is js al am same = is ∙ sym js
  line-told Headed l m small is js al am same =
      let word = append_cancel_left (codes "logic ") _ _ (ap bytes_of (sym (ap say is.1) ∙ same ∙ ap say js.1)) in
      is.1 ∙ ap logic_is (sym (logic-is is.0) ∙ ap logic_back word ∙ logic-is js.0) ∙ sym js.1
  line-told Chosen l m small is js al am same =
      let text = append_cancel_left (codes "formula ") _ _ (ap bytes_of (sym (ap say is.1) ∙ same ∙ ap say js.1)) in
      is.1 ∙ ap formula_is (formula-told is.0 js.0 (subst IsAllowed is.1 al) (subst IsAllowed js.1 am) text) ∙ sym js.1
  line-told Named l m small (inl is) (inl js) al am same = is ∙ sym js
  line-told Named l m small (inl is) (inr js) al am same = absurd (proof-no-model (sym (ap say is) ∙ same ∙ ap say js))
  line-told Named l m small (inr is) (inl js) al am same = absurd (proof-no-model (sym (sym (ap say is) ∙ same ∙ ap say js)))
  line-told Named l m small (inr is) (inr js) al am same = is ∙ sym js
  line-told (Proving []) l m small is js al am same = is ∙ sym js
  line-told (Proving (e ∷ ds)) l m small is js al am same =
      let told = signed-told is.0 js.0 is.1 js.1 (subst IsAllowed is.2 al).1 (subst IsAllowed js.2 am).1 (ap bytes_of (sym (ap say is.2) ∙ same ∙ ap say js.2)) in
      is.2 ∙ (λ i. step_is e (told.0 i) (told.1 i)) ∙ sym js.2
  line-told Sizing l m small is js al am same =
      let low = subst IsAllowed is.1 al in
      let low' = subst IsAllowed js.1 am in
      let digits = append_cancel_left (codes "worlds ") _ _ (ap bytes_of (sym (ap say is.1) ∙ same ∙ ap say js.1)) in
      is.1 ∙ ap worlds_are (decimal_injective is.0 js.0 low.1 low'.1 digits) ∙ sym js.1
  line-told (Sized n) l m small is js al am same =
      let low = subst IsAllowed is.1 al in
      let low' = subst IsAllowed js.1 am in
      let digits = append_cancel_left (codes "refuted ") _ _ (ap bytes_of (sym (ap say is.1) ∙ same ∙ ap say js.1)) in
      is.1 ∙ ap (refuted_is n) (decimal_injective is.0 js.0 (omega (arith, low, small)) (omega (arith, low', small)) digits) ∙ sym js.1
  line-told (Listing n i zero) l m small is js al am same = is ∙ sym js
  line-told (Listing n i (suc k)) l m small is js al am same =
      is.1 ∙ ap (world_is n i) (row-told n i is.0 js.0 small (subst IsAllowed is.1 al) (subst IsAllowed js.1 am) (ap bytes_of (sym (ap say is.1) ∙ same ∙ ap say js.1))) ∙ sym js.1
  line-told Ended l m small is js al am same = is ∙ sym js
  line-told Over l m small is js al am same = absurd is
  line-told Wrong l m small is js al am same = absurd is

  step-small : (s : State) (l : Line) → IsSmall s → Takes s l → IsAllowed l → IsSmall (step l s)
  step-small Start l small is al = subst (λ k. IsSmall (step k Start)) (sym is) tt
  step-small Headed l small is al = subst (λ k. IsSmall (step k Headed)) (sym is.1) tt
  step-small Chosen l small is al = subst (λ k. IsSmall (step k Chosen)) (sym is.1) tt
  step-small Named l small (inl is) al = subst (λ k. IsSmall (step k Named)) (sym is) tt
  step-small Named l small (inr is) al = subst (λ k. IsSmall (step k Named)) (sym is) tt
  step-small (Proving []) l small is al = subst (λ k. IsSmall (step k (Proving []))) (sym is) tt
  step-small (Proving (e ∷ ds)) l small is al = subst (λ k. IsSmall (step k (Proving (e ∷ ds)))) (sym is.2) (subst IsSmall (sym (step-step e ds is.0 is.1)) tt)
  step-small Sizing l small is al = subst (λ k. IsSmall (step k Sizing)) (sym is.1) (subst IsAllowed is.1 al).1
  step-small (Sized n) l small is al = subst (λ k. IsSmall (step k (Sized n))) (sym is.1) (subst IsSmall (sym (step-refuted n is.0)) small)
  step-small (Listing n i zero) l small is al = subst (λ k. IsSmall (step k (Listing n i zero))) (sym is) tt
  step-small (Listing n i (suc k)) l small is al = subst (λ o. IsSmall (step o (Listing n i (suc k)))) (sym is.1) (subst IsSmall (sym (step-world n i k is.0)) small)
  step-small Ended l small is al = subst (λ k. IsSmall (step k Ended)) (sym is) tt
  step-small Over l small is al = absurd is
  step-small Wrong l small is al = absurd is

  lines-told : (ls ms : List Line) (s : State) → IsSmall s → AreAllowed ls → AreAllowed ms → IsOnTrack (run ls s) → IsOnTrack (run ms s) → map say ls ≡ map say ms → ls ≡ ms
  lines-told [] [] s small al am on on' same = refl
  lines-told [] (m ∷ ms) s small al am on on' same = absurd (cc)
  lines-told (l ∷ ls) [] s small al am on on' same = absurd (cc)
  lines-told (l ∷ ls) (m ∷ ms) s small al am on on' same =
      let is = takes l s (on-before ls (step l s) on) in
      let js = takes m s (on-before ms (step m s) on') in
      let one = line-told s l m small is js al.0 am.0 (ap first_piece same) in
      let more = lines-told ls ms (step m s) (step-small s m small js am.0) al.1 am.1 (subst (λ k. IsOnTrack (run ls (step k s))) one on) on' (ap other_pieces same) in
      λ i. one i ∷ more i

  content-told : (b c : Content) → IsRegular b → IsRegular c → content_lines b ≡ content_lines c → b ≡ c
  content-told (Steps t) c full full' same =
      let other = proof-told c (steps 1 t closing) full' (sym same) in
      let made : t ∷ [] ≡ other.0 ∷ [] = sym (grown-steps 1 t closing full) ∙ other.2 in
      let proof : t ≡ other.0 = cc in
      ap Steps proof ∙ sym other.1
  content-told (sheet.Table w rows) (Steps t) full full' same = absurd (cc)
  content-told (sheet.Table w rows) (sheet.Table v others) full full' same =
      let tail : rows_from (length rows) 0 rows closing ≡ rows_from (length others) 0 others closing = cc in
      let world : w ≡ v = cc in
      λ i. sheet.Table (world i) ((sym (rows-in (length rows) 0 rows) ∙ ap rows_in tail ∙ rows-in (length others) 0 others) i)

  pub one-certificate : (text : List ℕ) → HasOneCertificate text
  one-certificate text c d reads reads' =
      let over = accepted c reads.regular in
      let over' = accepted d reads'.regular in
      let same = lines-told (lines c) (lines d) Start tt reads.allowed reads'.allowed (subst IsOnTrack (sym over) tt) (subst IsOnTrack (sym over') tt) (sym reads.said ∙ reads'.said) in
      let parts = parts-same c.logic d.logic c.formula d.formula (content_lines c.content) (content_lines d.content) same in
      λ i. record { logic = parts.0 i; formula = parts.1 i; content = content-told c.content d.content reads.regular reads'.regular parts.2 i }
