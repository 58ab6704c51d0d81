-- Of each grammar whose counts the tokens determine: tokens have at most one first fault, and a text of the grammar
-- whose tokens have none has no fault at any token.
use Rattle.std.proofs.Common.{◌≡◌, ℕ, zero, suc, ◌+◌, ◌<◌, ◌≤◌, Bool, true, false, inl, inr, List, [], ◌∷◌, ◌++◌, length, take, drop, get_or, slice_index, refl, sym, ◌∙◌, ap, subst, arith}
use Rattle.std.proofs.lemmas.List.{take-append-drop, get_or_default, length-take-le}
use Rattle.std.proofs.lemmas.Bool.{false≢true, cases_lt}
use Rattle.std.specs.List.{HoldsAt}
use borrow.Author.Count.{below_more}
use Rattle.lw_read.specs.Language.{Language, grammar_of}
use Rattle.lw_read.specs.Machine.{Machine, run, IsReaderOf}
use Rattle.lw_read.proofs.TokenByToken.{heights-at}
use Rattle.lw_read.specs.Places.{Grammar, nesting_limit, Begins, HasUnfinished, IsFine, AreFine, FaultKind, Unexpected, TooLong, Nested, HasFirstFault, HasNoFirstFault, HasOneCount, HasOneFirstFault}

module _ {A : Type 0} (G : Grammar A) where
  -- a token is there, so it isn't both too long and not
  never-both : (ts : List A) (i : ℕ) → i < length ts → HoldsAt (λ t. G.is_long t ≡ false) ts i → HoldsAt (λ t. G.is_long t ≡ true) ts i → ⊥
  never-both [] i h short long = absurd (omega arith)
  never-both (t ∷ ts) i h short long = false≢true (sym (short t) ∙ long t)

  begins : (ts : List A) (i n : ℕ) → HasUnfinished G ts i n → Begins G (take (i + 1) ts)
  begins ts i n has = (has.0, has.1)

  -- a token without a fault has none of the three
  pub fine-no-fault : HasOneCount G → (ts : List A) (kind : FaultKind) (i : ℕ) → IsFine G ts i → HasFirstFault G ts kind i → ⊥
  fine-no-fault one ts Unexpected i fine is = is.2 (begins ts i fine.1.0 fine.1.1)
  fine-no-fault one ts TooLong i fine is = never-both ts i is.0 fine.0 is.3
  fine-no-fault one ts Nested i fine is =
      let same = one ts i fine.1.0 is.3.0 is.0 fine.1.1 is.3.1 in
      let low = fine.1.2 in
      let high = is.3.2 in
      absurd (omega arith)

  -- the tokens before a fault have none
  before : (ts : List A) (kind : FaultKind) (i : ℕ) → HasFirstFault G ts kind i → AreFine G ts i
  before ts Unexpected i is = is.1
  before ts TooLong i is = is.1
  before ts Nested i is = is.1

  same-kind : (ts : List A) (kind other : FaultKind) (i : ℕ) → HasFirstFault G ts kind i → HasFirstFault G ts other i → kind ≡ other
  same-kind ts Unexpected Unexpected i is also = refl
  same-kind ts Unexpected TooLong i is also = absurd (is.2 also.2)
  same-kind ts Unexpected Nested i is also = absurd (is.2 (begins ts i also.3.0 also.3.1))
  same-kind ts TooLong Unexpected i is also = absurd (also.2 is.2)
  same-kind ts TooLong TooLong i is also = refl
  same-kind ts TooLong Nested i is also = absurd (never-both ts i is.0 also.2 is.3)
  same-kind ts Nested Unexpected i is also = absurd (also.2 (begins ts i is.3.0 is.3.1))
  same-kind ts Nested TooLong i is also = absurd (never-both ts i is.0 is.2 also.3)
  same-kind ts Nested Nested i is also = refl

  pub one-fault : HasOneCount G → (ts : List A) → HasOneFirstFault G ts
  one-fault one ts kind other i j is also = elim (cases_lt i j) [
    | inl less ↦ absurd (fine-no-fault one ts kind i (before ts other j also i less) is)
    | inr most ↦ elim (cases_lt j i) [
      | inl less ↦ absurd (fine-no-fault one ts other j (before ts kind i is j less) also)
      | inr least ↦
          let place : i ≡ j = omega arith in
          (same-kind ts kind other i is (subst (HasFirstFault G ts other) (sym place) also), place)
    ]
  ]

  -- a token that isn't too long, where so many constructs are unfinished, is fine or the first fault
  next : (ts : List A) → HasNoFirstFault G ts → G.IsText ts → (i : ℕ) → i < length ts → AreFine G ts i → IsFine G ts i
  next [] none text i h fine = absurd (omega arith)
  next (t ∷ us) none text i h fine =
      let ts = t ∷ us in
      let whole = take-append-drop (i + 1) ts in
      let has : (n : ℕ) × HasUnfinished G ts i n =
      (slice_index (G.counts _ (subst G.IsText (sym whole) text)) i, (drop (i + 1) ts, subst G.IsText (sym whole) text, refl)) in
      let holds : (P : A → Type 0) → P (get_or ts i t) → HoldsAt P ts i = λ P p. λ e. subst P (get_or_default ts i t e h) p in
      let Goal : Bool → Type 0 = λ b. G.is_long (get_or ts i t) ≡ b → IsFine G ts i in
      elim (G.is_long (get_or ts i t)) as Goal [
        | true ↦ λ long. absurd (none TooLong i (h, fine, begins ts i has.0 has.1, holds (λ t. G.is_long t ≡ true) long))
        | false ↦ λ short. elim (cases_lt nesting_limit has.0) [
          | inl high ↦ absurd (none Nested i (h, fine, holds (λ t. G.is_long t ≡ false) short, (has.0, has.1, high)))
          | inr low ↦ (holds (λ t. G.is_long t ≡ false) short, (has.0, has.1, low))
        ]
      ] refl

  all-fine : (ts : List A) → HasNoFirstFault G ts → G.IsText ts → (count : ℕ) → count ≤ length ts → AreFine G ts count
  all-fine ts none text zero h = λ i less. absurd (omega arith)
  all-fine ts none text (suc count) h =
      let fine = all-fine ts none text count (omega arith) in
      subst (AreFine G ts) (omega arith) (below_more (IsFine G ts) count fine (next ts none text count (omega arith) fine))

  -- a text of the grammar without a fault is fine throughout
  pub faultless-fine : (ts : List A) → HasNoFirstFault G ts → G.IsText ts → AreFine G ts (length ts)
  faultless-fine ts none text = all-fine ts none text (length ts) (omega arith)

module _ {A T S : Type 0} (L : Language A T) (M : Machine A T S) (reads : IsReaderOf L M) where
  -- the number of unfinished constructs is the height of the machine behind the tokens so far
  count-is : (ts : List A) (i n : ℕ) → i < length ts → HasUnfinished (grammar_of L) ts i n → n ≡ M.height (run M (take (i + 1) ts) M.start)
  count-is ts i n h has =
      let us = take (i + 1) ts in
      sym has.2 ∙ ap (λ counts. slice_index counts i) (reads.counts (us ++ has.0) has.1.0 has.1.1) ∙ heights-at M i us has.0 M.start (length-take-le (i + 1) ts (omega arith))

  -- so a language that a machine reads has one count at each token
  pub one-count : HasOneCount (grammar_of L)
  one-count ts i n m h has also = count-is ts i n h has ∙ sym (count-is ts i m h also)
