-- Where a text has its fault, for any grammar: the first token at which no text of the grammar goes on, a word is too
-- long, or too many constructs are unfinished, and within one token the first of these.
use Rattle.std.specs.Prelude.{◌≡◌, ℕ, ◌+◌, ◌<◌, ◌≤◌, Bool, true, false, List, ◌++◌, length, slice_index, take}
use Rattle.std.specs.List.{HoldsAt}

-- a grammar over tokens of a type
pub record Grammar (A : Type 0) : Type 1 where
  -- the tokens are a text of the grammar
  pub IsText : List A → Type 0
  -- how many constructs of a text are unfinished at each token
  pub counts : (ts : List A) → IsText ts → List ℕ
  -- the token's word or number is over its limit
  pub is_long : A → Bool

-- how many constructs may be unfinished at once
abbrev pub nesting_limit : ℕ
nesting_limit = 400

-- the kinds of faults, in the order in which a token is looked at for them
pub data FaultKind : Type 0 where
  Unexpected : FaultKind
  TooLong : FaultKind
  Nested : FaultKind

module _ {A : Type 0} (G : Grammar A) where
  -- some text of the grammar begins with these tokens
  abbrev pub Begins : List A → Type 0
  Begins ts = (rest : List A) × G.IsText (ts ++ rest)

  -- in some text that begins with the tokens up to the i-th one, n constructs are unfinished there
  abbrev pub HasUnfinished : List A → ℕ → ℕ → Type 0
  HasUnfinished ts i n =
      (rest : List A) × (text : G.IsText (take (i + 1) ts ++ rest)) × (slice_index (G.counts _ text) i ≡ n)

  -- the i-th token, from 0, has no fault
  abbrev pub IsFine : List A → ℕ → Type 0
  IsFine ts i = HoldsAt (λ t. G.is_long t ≡ false) ts i × ((n : ℕ) × HasUnfinished ts i n × (n ≤ nesting_limit))

  -- none of the first so many tokens has a fault
  abbrev pub AreFine : List A → ℕ → Type 0
  AreFine ts count = (i : ℕ) → i < count → IsFine ts i

  -- the first fault is that no text of the grammar begins with the tokens up to the i-th one
  abbrev pub IsUnexpected : List A → ℕ → Type 0
  IsUnexpected ts i = (i < length ts) × AreFine ts i × (Begins (take (i + 1) ts) → ⊥)

  -- the first fault is that the i-th token is too long
  abbrev pub IsTooLong : List A → ℕ → Type 0
  IsTooLong ts i =
      (i < length ts) × AreFine ts i × Begins (take (i + 1) ts) × HoldsAt (λ t. G.is_long t ≡ true) ts i

  -- the first fault is that too many constructs are unfinished at the i-th token
  abbrev pub IsNested : List A → ℕ → Type 0
  IsNested ts i =
      (i < length ts) × AreFine ts i × HoldsAt (λ t. G.is_long t ≡ false) ts i
      × ((n : ℕ) × HasUnfinished ts i n × (nesting_limit < n))

  -- the first fault is of this kind, at the i-th token
  abbrev pub HasFirstFault : List A → FaultKind → ℕ → Type 0
  HasFirstFault ts Unexpected i = IsUnexpected ts i
  HasFirstFault ts TooLong i = IsTooLong ts i
  HasFirstFault ts Nested i = IsNested ts i

  -- the tokens have no fault
  abbrev pub HasNoFirstFault : List A → Type 0
  HasNoFirstFault ts = (kind : FaultKind) (i : ℕ) → ¬ HasFirstFault ts kind i

  -- the tokens up to one determine how many constructs are unfinished there, however the text goes on
  abbrev pub HasOneCount : Type 0
  HasOneCount = (ts : List A) (i n m : ℕ) → i < length ts → HasUnfinished ts i n → HasUnfinished ts i m → n ≡ m

  -- the first fault is of one kind, at one token
  abbrev pub HasOneFirstFault : List A → Type 0
  HasOneFirstFault ts = (kind other : FaultKind) (i j : ℕ) → HasFirstFault ts kind i → HasFirstFault ts other j → (kind ≡ other) × (i ≡ j)
