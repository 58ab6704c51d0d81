-- Taking a text line by line: which lines are fine, where the first fault is, and whether it stands in a model.
use Rattle.std.proofs.Common.{◌≡◌, ℕ, zero, suc, ◌+◌, ◌<◌, Bool, true, false, ◌&&◌, not, nat_eq, cond, if◌then◌else◌, List, [], ◌∷◌, ◌++◌, length, map, take, drop, add-one, replicate, codes, refl, sym, ◌∙◌, ap, subst, arith, inl, inr, ◌⊎◌}
use Rattle.std.proofs.lemmas.Bool.Decides.{nat_tests}
use Rattle.std.proofs.lemmas.Bool.{false≢true}
use Rattle.std.proofs.lemmas.List.{append_assoc, append_cancel_left, map-append, length-append, length-map, append-nil, take-append-drop, length-take-le}
use Rattle.std.proofs.lemmas.Fmt.{decimal_injective}
use Rattle.std.specs.List.{list_all}
use Rattle.lw_formula.specs.declared.logic.Logic.{Logic}
use Rattle.lw_formula.specs.Formula.{Formula}
use Rattle.lw_formula.specs.Signed.{Signed}
use Rattle.lw_proof.specs.declared.rule.Rule.{Rule}
use Rattle.lw_proof.specs.Break.{arity}
use Rattle.lw_cert.specs.Lines.{Line, heading, logic_is, formula_is, proof_follows, step_is, model_follows, worlds_are, refuted_is, world_is, ending, nothing, Row, Piece, Whole, Cut, Stop, say, rule_word, IsAllowed, AreAllowed}
use Rattle.lw_cert.specs.Sheet.{Sheet, lines, IsRegular}
use Rattle.lw_cert.specs.CertificateFaults.{IsFine, IsFault, Reads, is_line, is_in_model}
use Rattle.lw_cert.specs.Private.LineMachine.{State, Start, Headed, Chosen, Named, Proving, Sizing, Sized, Listing, Ended, Over, Wrong, step, run, IsOnTrack, is_modelling}
use Rattle.lw_cert.specs.Private.StageViews.{Blocks}
use Rattle.lw_cert.proofs.MachineRuns.{Fits, backs, completes, accepted, run-append, on-before}

-- the lines that a state takes
abbrev pub Takes : State → Line → Type 0
Takes Start l = l ≡ heading
Takes Headed l = (L : Logic) × (l ≡ logic_is L)
Takes Chosen l = (a : Formula) × (l ≡ formula_is a)
Takes Named l = (l ≡ proof_follows) ⊎ (l ≡ model_follows)
Takes (Proving []) l = l ≡ ending
Takes (Proving (e ∷ ds)) l = (r : Rule) × (s : Signed) × (l ≡ step_is e r s)
Takes Sizing l = (n : ℕ) × (l ≡ worlds_are n)
Takes (Sized n) l = (w : ℕ) × (l ≡ refuted_is n w)
Takes (Listing n i zero) l = l ≡ ending
Takes (Listing n i (suc k)) l = (row : Row) × (l ≡ world_is n i row)
Takes Ended l = l ≡ nothing
Takes Over l = ⊥
Takes Wrong l = ⊥

pub takes : (l : Line) (s : State) → IsOnTrack (step l s) → Takes s l
takes heading Start on = refl
takes (logic_is L) Headed on = (L, refl)
takes (formula_is a) Chosen on = (a, refl)
takes proof_follows Named on = inl refl
takes model_follows Named on = inr refl
takes (step_is d r s) (Proving (e ∷ ds)) on =
    let Goal : Bool → Type 0 = λ b. nat_eq d e ≡ b → IsOnTrack (cond b (Proving (replicate (arity r) (suc e) ++ ds)) Wrong) → Takes (Proving (e ∷ ds)) (step_is d r s) in
    elim (nat_eq d e) as Goal [
      | true ↦ λ is on. let same : d ≡ e = grind (arith, nat_tests) in (r, s, ap (λ k. step_is k r s) same)
      | false ↦ λ is on. absurd on
    ] refl on
takes ending (Proving []) on = refl
takes (worlds_are n) Sizing on = (n, refl)
takes (refuted_is n w) (Sized m) on =
    let Goal : Bool → Type 0 = λ b. nat_eq n m ≡ b → IsOnTrack (cond b (Listing m 0 m) Wrong) → Takes (Sized m) (refuted_is n w) in
    elim (nat_eq n m) as Goal [
      | true ↦ λ is on. let same : n ≡ m = grind (arith, nat_tests) in (w, ap (λ k. refuted_is k w) same)
      | false ↦ λ is on. absurd on
    ] refl on
takes (world_is n w row) (Listing m i (suc k)) on =
    let Goal : Bool → Bool → Type 0 = λ b c. nat_eq n m ≡ b → nat_eq w i ≡ c → IsOnTrack (cond (b && c) (Listing m (suc i) k) Wrong) → Takes (Listing m i (suc k)) (world_is n w row) in
    elim (nat_eq n m) as (λ b. Goal b (nat_eq w i)) [
      | true ↦ elim (nat_eq w i) as (λ c. Goal true c) [
        | true ↦ λ is at on. let same : n ≡ m = grind (arith, nat_tests) in let here : w ≡ i = grind (arith, nat_tests) in (row, λ j. world_is (same j) (here j) row)
        | false ↦ λ is at on. absurd on
      ]
      | false ↦ λ is at on. absurd on
    ] refl refl on
takes ending (Listing m i zero) on = refl
takes nothing Ended on = refl
takes _ _ on = absurd on

-- a rule, by the first two bytes of its word
abbrev pub first_byte : List ℕ → ℕ
first_byte [] = 0
first_byte (b ∷ bytes) = b

abbrev pub second_byte : List ℕ → ℕ
second_byte [] = 0
second_byte (b ∷ bytes) = first_byte bytes

abbrev rule_by : ℕ → ℕ → Rule
rule_by b c =
    if nat_eq b 97 then Rule.Absurd else
    if nat_eq b 111 then Rule.One else
    if nat_eq b 116 then Rule.Two else
    if nat_eq b 114 then Rule.Refl else
    if nat_eq b 115 then (if nat_eq c 116 then Rule.Step else Rule.Serial) else
    if nat_eq c 108 then Rule.Close else Rule.Cut

abbrev pub rule_back : List ℕ → Rule
rule_back bytes = rule_by (first_byte bytes) (second_byte bytes)

pub rule-is : (r : Rule) (rest : List ℕ) → rule_back (rule_word r ++ rest) ≡ r
rule-is r rest = grind arith

abbrev pub bytes_of : Piece → List ℕ
bytes_of (Whole bytes) = bytes
bytes_of (Cut bytes) = bytes
bytes_of Stop = []

pub rule-told : (r t : Rule) (xs ys : List ℕ) → rule_word r ++ xs ≡ rule_word t ++ ys → r ≡ t
rule-told r t xs ys same = sym (rule-is r xs) ∙ ap rule_back same ∙ rule-is t ys

pub proof-no-model : say proof_follows ≡ say model_follows → ⊥
proof-no-model e = false≢true (sym (ap (λ p. nat_eq (first_byte (bytes_of p)) 112) e))

-- the bytes of a line and the state tell the next state
alike : (s : State) (l m : Line) → Takes s l → Takes s m → IsAllowed l → IsAllowed m → say l ≡ say m → step l s ≡ step m s
alike Start l m is js al am same = ap (λ k. step k Start) (is ∙ sym js)
alike Headed l m is js al am same = ap (λ k. step k Headed) is.1 ∙ sym (ap (λ k. step k Headed) js.1)
alike Chosen l m is js al am same = ap (λ k. step k Chosen) is.1 ∙ sym (ap (λ k. step k Chosen) js.1)
alike Named l m (inl is) (inl js) al am same = ap (λ k. step k Named) (is ∙ sym js)
alike Named l m (inl is) (inr js) al am same = absurd (proof-no-model (sym (ap say is) ∙ same ∙ ap say js))
alike Named l m (inr is) (inl js) al am same = absurd (proof-no-model (sym (sym (ap say is) ∙ same ∙ ap say js)))
alike Named l m (inr is) (inr js) al am same = ap (λ k. step k Named) (is ∙ sym js)
alike (Proving []) l m is js al am same = ap (λ k. step k (Proving [])) (is ∙ sym js)
alike (Proving (e ∷ ds)) l m is js al am same =
    let told = rule-told is.0 js.0 _ _ (ap bytes_of (sym (ap say is.2) ∙ same ∙ ap say js.2)) in
    ap (λ k. step k (Proving (e ∷ ds))) is.2
    ∙ ap (λ r. cond (nat_eq e e) (Proving (replicate (arity r) (suc e) ++ ds)) Wrong) told
    ∙ sym (ap (λ k. step k (Proving (e ∷ ds))) js.2)
alike Sizing l m is js al am same =
    let low = subst IsAllowed is.1 al in
    let low' = subst IsAllowed js.1 am in
    let digits = append_cancel_left (codes "worlds ") _ _ (ap bytes_of (sym (ap say is.1) ∙ same ∙ ap say js.1)) in
    ap (λ k. step k Sizing) is.1
    ∙ ap Sized (decimal_injective is.0 js.0 low.1 low'.1 digits)
    ∙ sym (ap (λ k. step k Sizing) js.1)
alike (Sized n) l m is js al am same = ap (λ k. step k (Sized n)) is.1 ∙ sym (ap (λ k. step k (Sized n)) js.1)
alike (Listing n i zero) l m is js al am same = ap (λ k. step k (Listing n i zero)) (is ∙ sym js)
alike (Listing n i (suc k)) l m is js al am same = ap (λ o. step o (Listing n i (suc k))) is.1 ∙ sym (ap (λ o. step o (Listing n i (suc k))) js.1)
alike Ended l m is js al am same = ap (λ k. step k Ended) (is ∙ sym js)
alike Over l m is js al am same = absurd is
alike Wrong l m is js al am same = absurd is

abbrev pub first_piece : List Piece → Piece
first_piece [] = Stop
first_piece (p ∷ ps) = p

abbrev pub other_pieces : List Piece → List Piece
other_pieces [] = []
other_pieces (p ∷ ps) = ps

-- the same for some lines
alike-run : (ls ms : List Line) (s : State) (xs ys : List Piece) → length ls ≡ length ms → map say ls ++ xs ≡ map say ms ++ ys → AreAllowed ls → AreAllowed ms → IsOnTrack (run ls s) → IsOnTrack (run ms s) → run ls s ≡ run ms s
alike-run [] [] s xs ys long same al am on on' = refl
alike-run [] (m ∷ ms) s xs ys long same al am on on' = absurd (omega arith)
alike-run (l ∷ ls) [] s xs ys long same al am on on' = absurd (omega arith)
alike-run (l ∷ ls) (m ∷ ms) s xs ys long same al am on on' =
    let one = alike s l m (takes l s (on-before ls (step l s) on)) (takes m s (on-before ms (step m s) on')) al.0 am.0 (ap first_piece same) in
    let more = alike-run ls ms (step m s) xs ys (omega arith) (ap other_pieces same) al.1 am.1 (subst (λ t. IsOnTrack (run ls t)) one on) on' in
    ap (run ls) one ∙ more

pub AreAllowed-append : (ls ms : List Line) → AreAllowed ls → AreAllowed ms → AreAllowed (ls ++ ms)
AreAllowed-append [] ms al am = am
AreAllowed-append (l ∷ ls) ms al am = (al.0, AreAllowed-append ls ms al.1 am)

allowed-first : (ls ms : List Line) → AreAllowed (ls ++ ms) → AreAllowed ls
allowed-first [] ms al = tt
allowed-first (l ∷ ls) ms al = (al.0, allowed-first ls ms al.1)

allowed-other : (ls ms : List Line) → AreAllowed (ls ++ ms) → AreAllowed ms
allowed-other [] ms al = al
allowed-other (l ∷ ls) ms al = allowed-other ls ms al.1

-- lines with which a certificate goes on, that keep what they have to
pub fine : (ps : List Piece) (at : ℕ) (ls : List Line) (rest : List Piece) → ps ≡ map say ls ++ rest → length ls ≡ suc at → AreAllowed ls → IsOnTrack (run ls Start) → IsFine ps at
fine ps at ls rest said count allowed on =
    let more = completes (run ls Start) on in
    let whole = backs ls Start more.0 more.1 in
    record { certificate = whole.0; regular = whole.1; first = ls; others = more.0; rest = rest; begins = sym whole.2; count = count; allowed = allowed; said = said }

-- the last of some lines
record Last (ls : List Line) (at : ℕ) : Type 0 where
  pub front : List Line
  pub last : Line
  pub is : ls ≡ front ++ last ∷ []
  pub count : length front ≡ at

last-of : (ls : List Line) (at : ℕ) → length ls ≡ suc at → Last ls at
last-of [] at count = absurd (omega arith)
last-of (l ∷ []) at count = record { front = []; last = l; is = refl; count = omega arith }
last-of (l ∷ k ∷ ls) zero count = absurd (omega arith)
last-of (l ∷ k ∷ ls) (suc at) count =
    let more = last-of (k ∷ ls) at (omega arith) in
    record { front = l ∷ more.front; last = more.last; is = ap (λ ms. l ∷ ms) more.is; count = ap suc more.count }

pub map_more : (ls : List Line) (l : Line) (rest : List Piece) → map say (ls ++ l ∷ []) ++ rest ≡ map say ls ++ say l ∷ rest
map_more ls l rest = ap (λ ps. ps ++ rest) (map-append say ls (l ∷ [])) ∙ append_assoc (map say ls) (say l ∷ []) rest

-- pieces that are equal up to a place are equal behind it
behind : (ls ms : List Line) (xs ys : List Piece) → length ls ≡ length ms → map say ls ++ xs ≡ map say ms ++ ys → xs ≡ ys
behind [] [] xs ys long same = same
behind [] (m ∷ ms) xs ys long same = absurd (omega arith)
behind (l ∷ ls) [] xs ys long same = absurd (omega arith)
behind (l ∷ ls) (m ∷ ms) xs ys long same = behind ls ms xs ys (omega arith) (ap other_pieces same)

-- where none goes on, there is the fault
not-fine : (ps : List Piece) (at : ℕ) (ls : List Line) (p : Piece) (rest : List Piece) → ps ≡ map say ls ++ p ∷ rest → length ls ≡ at → AreAllowed ls → IsOnTrack (run ls Start) → Blocks p (run ls Start) → IsFine ps at → ⊥
not-fine ps at ls p rest said count allowed on blocks is =
    let parts = last-of is.first at is.count in
    let ms = parts.front in
    let m = parts.last in
    let said' : ps ≡ map say ms ++ say m ∷ is.rest = is.said ∙ ap (λ ks. map say ks ++ is.rest) parts.is ∙ map_more ms m is.rest in
    let same = sym said ∙ said' in
    let long : length ls ≡ length ms = count ∙ sym parts.count in
    let all' : AreAllowed (ms ++ m ∷ []) = subst AreAllowed parts.is is.allowed in
    let over = ap (λ ks. run ks Start) (sym is.begins) ∙ accepted is.certificate is.regular in
    let to = run-append is.first is.others Start in
    let on-first = on-before is.others (run is.first Start) (subst IsOnTrack (sym (sym to ∙ over)) tt) in
    let on-last : IsOnTrack (step m (run ms Start)) = subst IsOnTrack (ap (λ ks. run ks Start) parts.is ∙ run-append ms (m ∷ []) Start) on-first in
    let on-ms = on-before (m ∷ []) (run ms Start) on-last in
    let state = alike-run ls ms Start (p ∷ rest) (say m ∷ is.rest) long same allowed (allowed-first ms (m ∷ []) all') on on-ms in
    blocks m (ap first_piece (sym (behind ls ms (p ∷ rest) (say m ∷ is.rest) long same))) (allowed-other ms (m ∷ []) all').0 (subst (λ s. IsOnTrack (step m s)) (sym state) on-last)

pub faulty : (ps : List Piece) (at : ℕ) (ls : List Line) (p : Piece) (rest : List Piece) → ps ≡ map say ls ++ p ∷ rest → length ls ≡ at → AreAllowed ls → IsOnTrack (run ls Start) → ((i : ℕ) → i < at → IsFine ps i) → Blocks p (run ls Start) → IsFault ps at
faulty ps at ls p rest said count allowed on before blocks = record {
  within = let long = ap length said ∙ length-append (map say ls) (p ∷ rest) in let same = length-map ls say in omega arith;
  before = before;
  here = not-fine ps at ls p rest said count allowed on blocks;
}

abbrev no_end : List Piece → Bool
no_end ps = list_all (λ t. not (is_line (codes "end") t)) ps

pub step-refuted : (n w : ℕ) → step (refuted_is n w) (Sized n) ≡ Listing n 0 n
step-refuted n w = let same : nat_eq n n ≡ true = grind (arith, nat_tests) in ap (λ b. cond b (Listing n 0 n) Wrong) same

pub step-world : (n i k : ℕ) (row : Row) → step (world_is n i row) (Listing n i (suc k)) ≡ Listing n (suc i) k
step-world n i k row =
    let same : nat_eq n n ≡ true = grind (arith, nat_tests) in
    let here : nat_eq i i ≡ true = grind (arith, nat_tests) in
    λ j. cond (same j && here j) (Listing n (suc i) k) Wrong

pub step-step : (e : ℕ) (ds : List ℕ) (r : Rule) (s : Signed) → step (step_is e r s) (Proving (e ∷ ds)) ≡ Proving (replicate (arity r) (suc e) ++ ds)
step-step e ds r s = let same : nat_eq e e ≡ true = grind (arith, nat_tests) in ap (λ b. cond b (Proving (replicate (arity r) (suc e) ++ ds)) Wrong) same

-- a state with what follows from it, one line on
from : (l m : Line) (s t : State) (ls : List Line) → l ≡ m → step m s ≡ t → run (l ∷ ls) s ≡ run ls t
from l m s t ls is to = ap (λ k. run ls (step k s)) is ∙ ap (run ls) to

over-stays : (ls : List Line) → IsOnTrack (run ls Over) → is_modelling (run ls Over) ≡ false
over-stays [] on = refl
over-stays (l ∷ ls) on = absurd (takes l Over (on-before ls (step l Over) on))

-- nothing goes on in a proof, or behind the end, to a model
ended-stays : (ls : List Line) → IsOnTrack (run ls Ended) → is_modelling (run ls Ended) ≡ false
ended-stays [] on = refl
ended-stays (l ∷ ls) on =
    let to = from l nothing Ended Over ls (takes l Ended (on-before ls (step l Ended) on)) refl in
    ap is_modelling to ∙ over-stays ls (subst IsOnTrack to on)

proving-stays : (ls : List Line) (ds : List ℕ) → IsOnTrack (run ls (Proving ds)) → is_modelling (run ls (Proving ds)) ≡ false
proving-stays [] ds on = refl
proving-stays (l ∷ ls) [] on =
    let to = from l ending (Proving []) Ended ls (takes l (Proving []) (on-before ls (step l (Proving [])) on)) refl in
    ap is_modelling to ∙ ended-stays ls (subst IsOnTrack to on)
proving-stays (l ∷ ls) (e ∷ ds) on =
    let is = takes l (Proving (e ∷ ds)) (on-before ls (step l (Proving (e ∷ ds))) on) in
    let next = replicate (arity is.0) (suc e) ++ ds in
    let to = from l (step_is e is.0 is.1) (Proving (e ∷ ds)) (Proving next) ls is.2 (step-step e ds is.0 is.1) in
    ap is_modelling to ∙ proving-stays ls next (subst IsOnTrack to on)

-- in a model one goes on as long as no line is `end`
modelling : (ls : List Line) (s : State) → is_modelling s ≡ true → IsOnTrack (run ls s) → is_modelling (run ls s) ≡ no_end (map say ls)
modelling [] s m on = m
modelling (l ∷ ls) Sizing m on =
    let is = takes l Sizing (on-before ls (step l Sizing) on) in
    let to = from l (worlds_are is.0) Sizing (Sized is.0) ls is.1 refl in
    ap is_modelling to ∙ modelling ls (Sized is.0) refl (subst IsOnTrack to on) ∙ ap (λ k. no_end (say k ∷ map say ls)) (sym is.1)
modelling (l ∷ ls) (Sized n) m on =
    let is = takes l (Sized n) (on-before ls (step l (Sized n)) on) in
    let to = from l (refuted_is n is.0) (Sized n) (Listing n 0 n) ls is.1 (step-refuted n is.0) in
    ap is_modelling to ∙ modelling ls (Listing n 0 n) refl (subst IsOnTrack to on) ∙ ap (λ k. no_end (say k ∷ map say ls)) (sym is.1)
modelling (l ∷ ls) (Listing n i zero) m on =
    let is = takes l (Listing n i zero) (on-before ls (step l (Listing n i zero)) on) in
    let to = from l ending (Listing n i zero) Ended ls is refl in
    ap is_modelling to ∙ ended-stays ls (subst IsOnTrack to on) ∙ ap (λ k. no_end (say k ∷ map say ls)) (sym is)
modelling (l ∷ ls) (Listing n i (suc k)) m on =
    let is = takes l (Listing n i (suc k)) (on-before ls (step l (Listing n i (suc k))) on) in
    let to = from l (world_is n i is.0) (Listing n i (suc k)) (Listing n (suc i) k) ls is.1 (step-world n i k is.0) in
    ap is_modelling to ∙ modelling ls (Listing n (suc i) k) refl (subst IsOnTrack to on) ∙ ap (λ o. no_end (say o ∷ map say ls)) (sym is.1)
modelling (l ∷ ls) _ m on = absurd (false≢true m)

named-place : (l : Line) (ls : List Line) → IsOnTrack (run (l ∷ ls) Named) → (is_line (codes "model") (say l) && no_end (map say ls)) ≡ is_modelling (run (l ∷ ls) Named)
named-place l ls on = of (takes l Named (on-before ls (step l Named) on))
  where
    of : Takes Named l → (is_line (codes "model") (say l) && no_end (map say ls)) ≡ is_modelling (run (l ∷ ls) Named)
    of (inl is) =
        let to = from l proof_follows Named (Proving (1 ∷ [])) ls is refl in
        ap (λ k. is_line (codes "model") (say k) && no_end (map say ls)) is ∙ sym (ap is_modelling to ∙ proving-stays ls (1 ∷ []) (subst IsOnTrack to on))
    of (inr is) =
        let to = from l model_follows Named Sizing ls is refl in
        ap (λ k. is_line (codes "model") (say k) && no_end (map say ls)) is ∙ sym (ap is_modelling to ∙ modelling ls Sizing refl (subst IsOnTrack to on))

to-headed : (a : Line) (ls : List Line) → IsOnTrack (run (a ∷ ls) Start) → run (a ∷ ls) Start ≡ run ls Headed
to-headed a ls on = from a heading Start Headed ls (takes a Start (on-before ls (step a Start) on)) refl

to-chosen : (b : Line) (ls : List Line) → IsOnTrack (run (b ∷ ls) Headed) → run (b ∷ ls) Headed ≡ run ls Chosen
to-chosen b ls on = let is = takes b Headed (on-before ls (step b Headed) on) in from b (logic_is is.0) Headed Chosen ls is.1 refl

to-named : (c : Line) (ls : List Line) → IsOnTrack (run (c ∷ ls) Chosen) → run (c ∷ ls) Chosen ≡ run ls Named
to-named c ls on = let is = takes c Chosen (on-before ls (step c Chosen) on) in from c (formula_is is.0) Chosen Named ls is.1 refl

-- whether the next line stands in a model
pub place : (ls : List Line) → IsOnTrack (run ls Start) → is_in_model (map say ls) ≡ is_modelling (run ls Start)
place [] on = refl
place (a ∷ []) on = sym (ap is_modelling (to-headed a [] on))
place (a ∷ b ∷ []) on =
    let one = to-headed a (b ∷ []) on in
    sym (ap is_modelling (one ∙ to-chosen b [] (subst IsOnTrack one on)))
place (a ∷ b ∷ c ∷ []) on =
    let one = to-headed a (b ∷ c ∷ []) on in
    let two = one ∙ to-chosen b (c ∷ []) (subst IsOnTrack one on) in
    sym (ap is_modelling (two ∙ to-named c [] (subst IsOnTrack two on)))
place (a ∷ b ∷ c ∷ d ∷ ls) on =
    let one = to-headed a (b ∷ c ∷ d ∷ ls) on in
    let two = one ∙ to-chosen b (c ∷ d ∷ ls) (subst IsOnTrack one on) in
    let three = two ∙ to-named c (d ∷ ls) (subst IsOnTrack two on) in
    named-place d ls (subst IsOnTrack three on) ∙ sym (ap is_modelling three)

-- the certificate of lines that lead to the end
pub whole : (ls : List Line) → run ls Start ≡ Over → (c : Sheet) × IsRegular c.content × (ls ≡ lines c)
whole ls over =
    let fits = backs ls Start [] (subst (λ s. Fits s []) (sym over) refl) in
    (fits.0, fits.1, sym (append-nil ls) ∙ fits.2)

-- each line of a certificate's text is fine
fine-at : (ps : List Piece) (c : Sheet) → Reads ps c → (ls ms : List Line) (i : ℕ) → lines c ≡ ls ++ ms → length ls ≡ suc i → IsFine ps i
fine-at ps c reads ls ms i is count = record {
  certificate = c;
  regular = reads.regular;
  first = ls;
  others = ms;
  rest = map say ms;
  begins = is;
  count = count;
  allowed = allowed-first ls ms (subst AreAllowed is reads.allowed);
  said = reads.said ∙ ap (map say) is ∙ map-append say ls ms;
}

-- a certificate's text has no fault
pub no-fault : (ps : List Piece) (c : Sheet) (at : ℕ) → Reads ps c → IsFault ps at → ⊥
no-fault ps c at reads fault =
    let within = fault.within in
    let long = ap length reads.said ∙ length-map (lines c) say in
    fault.here (fine-at ps c reads (take (at + 1) (lines c)) (drop (at + 1) (lines c)) at (sym (take-append-drop (at + 1) (lines c))) (length-take-le (at + 1) (lines c) (omega arith) ∙ add-one at))
