-- Reading token by token with a machine, for any language: the machine goes astray exactly where no text goes on, so
-- each fault is found at its token (the viable-prefix property: Aho, Sethi and Ullman, Compilers).
use Rattle.std.specs.Prelude.{◌≡◌, ◌≢◌, ℕ, ◌<◌, true, false, List, [], ◌∷◌, ◌⊎◌}
use Rattle.lw_read.specs.declared.lexer.Token.{Token}
use Rattle.lw_read.specs.declared.lexer.TokenKind.TheVariants.{Bad, Stop}
use Rattle.lw_read.specs.declared.text_fault.TextFault.{TextFault}
use Rattle.lw_read.specs.declared.text_fault.TextFault.TheVariants.{Unexpected, TooLong, Nested, Memory}
use Rattle.lw_read.specs.Places.{nesting_limit, Begins}
use Rattle.lw_read.specs.Language.{Language, grammar_of}

-- a machine that takes tokens one by one and makes a tree
pub record Machine (A T S : Type 0) : Type 0 where
  -- the state before the first token
  pub start : S
  -- the state behind one token more
  pub step : A → S → S
  -- no text goes on so
  pub astray : S
  -- the text is over, and this is its tree
  pub over : T → S
  -- how many constructs are unfinished
  pub height : S → ℕ

module _ {A T S : Type 0} (M : Machine A T S) where
  -- the state behind some tokens more
  abbrev pub run : List A → S → S
  run [] s = s
  run (t ∷ ts) s = run ts (M.step t s)

  -- the number of unfinished constructs behind each token
  abbrev pub heights : List A → S → List ℕ
  heights [] s = []
  heights (t ∷ ts) s = M.height (M.step t s) ∷ heights ts (M.step t s)

  -- the text is over, or no text goes on so
  abbrev pub IsDone : S → Type 0
  IsDone s = (s ≡ M.astray) ⊎ ((a : T) × (s ≡ M.over a))

-- the machine reads the language
pub record IsReaderOf {A T S : Type 0} (L : Language A T) (M : Machine A T S) : Type 0 where
  -- it makes the tree of each text
  pub accepts : (ts : List A) (a : T) → L.IsText ts a → run M ts M.start ≡ M.over a
  -- and of nothing else
  pub sound : (ts : List A) (a : T) → run M ts M.start ≡ M.over a → L.IsText ts a
  -- where it isn't astray, some text goes on
  pub completes : (ts : List A) → run M ts M.start ≢ M.astray → Begins (grammar_of L) ts
  -- and where it is, it stays so
  pub lost : (t : A) → M.step t M.astray ≡ M.astray
  -- a text that is over isn't astray
  pub apart : (a : T) → M.over a ≢ M.astray
  -- at first nothing is unfinished
  pub bare : M.height M.start ≡ 0
  -- it counts what the grammar counts
  pub counts : (ts : List A) (a : T) (text : L.IsText ts a) → L.counts ts a text ≡ heights M ts M.start
  -- the end of a text, and a byte that begins no token, leave nothing open
  pub stops : (text : List ℕ) (token : Token) (s : S) → (token.kind ≡ Stop) ⊎ (token.kind ≡ Bad) →
      IsDone M (M.step (L.lexeme_of text token) s)

-- the token that leads to the state is neither unexpected nor too long
pub record IsTaken {A T S : Type 0} (L : Language A T) (M : Machine A T S) (t : A) (s : S) : Type 0 where
  pub on : s ≢ M.astray
  pub short : L.is_long t ≡ false

module _ {A T S : Type 0} (L : Language A T) (M : Machine A T S) where
  -- the token that leads to the state has this fault
  abbrev pub Refuses : A → S → Token → TextFault → Type 0
  Refuses t s token (Unexpected at) = (s ≡ M.astray) × (at ≡ token)
  Refuses t s token (TooLong at) = (s ≢ M.astray) × (L.is_long t ≡ true) × (at ≡ token)
  Refuses t s token (Nested at) =
      (s ≢ M.astray) × (L.is_long t ≡ false) × (nesting_limit < M.height s) × (at ≡ token)
  Refuses t s token Memory = Unit {0}
