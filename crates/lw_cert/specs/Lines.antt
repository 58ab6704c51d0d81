-- The lines of a certificate's text, and what their bytes are.
use Rattle.std.specs.Prelude.{◌≡◌, ℕ, ◌+◌, ◌<◌, ◌≤◌, ◌^◌, if◌then◌else◌, nat_eq, List, [], ◌∷◌, ◌++◌, codes, IsTrue, ⊤}
use Rattle.std.specs.Fmt.{decimal}
use Rattle.lw_formula.specs.declared.logic.Logic.{Logic}
use Rattle.lw_formula.specs.declared.sign.Sign.{Sign}
use Rattle.lw_formula.specs.declared.sign.Sign.TheVariants.{T, F}
use Rattle.lw_formula.specs.Logic.{word_of}
use Rattle.lw_formula.specs.Formula.{Formula}
use Rattle.lw_formula.specs.Name.{is_name}
use Rattle.lw_formula.specs.Signed.{Signed}
use Rattle.std.specs.Ordering.{nat_cmp}
use Rattle.std.specs.Cmp.Lexicographic.{slice_cmp}
use Rattle.std.specs.declared.cmp.Ordering.TheVariants.{Less}
use Rattle.lw_read.specs.Text.{text_of}
use Rattle.lw_read.specs.Grammar.{ReadsAs}
use Rattle.lw_read.specs.Laws.{IsFaultless}
use Rattle.lw_proof.specs.declared.rule.Rule.{Rule}

-- a world of a model as its line has it: the worlds that it sees, and the variables that are true there
pub record Row : Type 0 where
  pub sees : List ℕ
  pub names : List (List ℕ)

-- a line. A step carries its depth in the proof, and a line of a model's body the number of worlds: no byte says them.
pub data Line : Type 0 where
  heading : Line
  logic_is : Logic → Line
  formula_is : Formula → Line
  proof_follows : Line
  step_is : (depth : ℕ) → Rule → Signed → Line
  model_follows : Line
  worlds_are : (worlds : ℕ) → Line
  refuted_is : (worlds world : ℕ) → Line
  world_is : (worlds world : ℕ) → Row → Line
  ending : Line
  -- a line that isn't there: the text is over
  nothing : Line

-- what a text has at a place: a line, without its line feed; bytes at the text's end without one; or nothing more
pub data Piece : Type 0 where
  Whole : List ℕ → Piece
  Cut : List ℕ → Piece
  Stop : Piece

-- a rule's word with the space behind it
abbrev pub rule_word : Rule → List ℕ
rule_word Rule.Close = codes "close "
rule_word Rule.Absurd = codes "absurd "
rule_word Rule.One = codes "one "
rule_word Rule.Two = codes "two "
rule_word Rule.Refl = codes "refl "
rule_word Rule.Step = codes "step "
rule_word Rule.Serial = codes "serial "
rule_word Rule.Cut = codes "cut "

-- a sign with the space behind it
abbrev pub sign_word : Sign → List ℕ
sign_word T = codes "T "
sign_word F = codes "F "

-- numbers, each in decimal behind a space, and then the rest
abbrev pub numbers : List ℕ → List ℕ → List ℕ
numbers [] rest = rest
numbers (n ∷ ns) rest = 32 ∷ (decimal n ++ numbers ns rest)

-- words, each behind a space
abbrev pub words : List (List ℕ) → List ℕ
words [] = []
words (w ∷ ws) = 32 ∷ (w ++ words ws)

-- the bytes of a step's line
abbrev pub step_text : Rule → Signed → List ℕ
step_text r s = rule_word r ++ (sign_word s.0 ++ text_of s.1)

-- the bytes of a world's line
abbrev pub world_text : ℕ → Row → List ℕ
world_text w row = codes "world " ++ (decimal w ++ (codes " sees" ++ numbers row.sees (codes " true" ++ words row.names)))

-- what stands at a line's place
abbrev pub say : Line → Piece
say heading = Whole (codes "certificate 1")
say (logic_is L) = Whole (codes "logic " ++ word_of L)
say (formula_is a) = Whole (codes "formula " ++ text_of a)
say proof_follows = Whole (codes "proof")
say (step_is d r s) = Whole (step_text r s)
say model_follows = Whole (codes "model")
say (worlds_are n) = Whole (codes "worlds " ++ decimal n)
say (refuted_is n w) = Whole (codes "refuted " ++ decimal w)
say (world_is n w row) = Whole (world_text w row)
say ending = Whole (codes "end")
say nothing = Stop

-- a byte before the first piece
abbrev pub longer : ℕ → List Piece → List Piece
longer b [] = []
longer b (Whole bytes ∷ ps) = Whole (b ∷ bytes) ∷ ps
longer b (Cut bytes ∷ ps) = Cut (b ∷ bytes) ∷ ps
longer b (Stop ∷ ps) = Cut (b ∷ []) ∷ ps

-- a line feed ends a line
abbrev pub add_byte : ℕ → List Piece → List Piece
add_byte b ps = if nat_eq b 10 then Whole [] ∷ ps else longer b ps

-- the pieces of a text: its lines, and last what stands behind the last line feed
abbrev pub pieces : List ℕ → List Piece
pieces [] = Stop ∷ []
pieces (b ∷ bytes) = add_byte b (pieces bytes)

-- the greatest depth of a step in a text that is read
abbrev pub depth_limit : ℕ
depth_limit = 4096

-- the numbers ascend from `least` on, and are below n
abbrev pub Climb : ℕ → ℕ → List ℕ → Type 0
Climb n least [] = ⊤
Climb n least (v ∷ vs) = (least ≤ v) × (v < n) × Climb n (v + 1) vs

-- each is the name of a variable, and they ascend in byte order from `last` on
abbrev pub Rise : List ℕ → List (List ℕ) → Type 0
Rise last [] = ⊤
Rise last (p ∷ ps) = IsTrue (is_name p) × (slice_cmp nat_cmp last p ≡ Less) × Rise p ps

-- the worlds are some of n, in order, and the variables have names, in byte order; the empty text is before each name
pub record IsRow (n : ℕ) (row : Row) : Type 0 where
  pub sees : Climb n 0 row.sees
  pub names : Rise [] row.names

-- the line keeps what it has to keep by itself: a formula's text has no fault and is the formula's, a step isn't too
-- deep, and a model has worlds, no more than can be counted, and speaks of them alone
abbrev pub IsAllowed : Line → Type 0
IsAllowed (formula_is a) = ReadsAs (text_of a) a
IsAllowed (step_is d r s) = (d ≤ depth_limit) × ReadsAs (text_of s.1) s.1
IsAllowed (worlds_are n) = (1 ≤ n) × (n < 2 ^ 64)
IsAllowed (refuted_is n w) = w < n
IsAllowed (world_is n w row) = IsRow n row
IsAllowed _ = ⊤

abbrev pub AreAllowed : List Line → Type 0
AreAllowed [] = ⊤
AreAllowed (l ∷ ls) = IsAllowed l × AreAllowed ls

-- the line is within the limits of a text that is read: the text of its formula has no fault, its step isn't too deep,
-- and its number of worlds can be counted
abbrev pub IsWithinLimits : Line → Type 0
IsWithinLimits (formula_is a) = IsFaultless (text_of a)
IsWithinLimits (step_is d r s) = (d ≤ depth_limit) × IsFaultless (text_of s.1)
IsWithinLimits (worlds_are n) = n < 2 ^ 64
IsWithinLimits _ = ⊤
