-- Reading token by token, with any machine that reads a language: from one token to the next, and at the end of a text.
use Rattle.std.proofs.Common.{◌≡◌, ◌≢◌, ℕ, zero, suc, ◌+◌, ◌-◌, ◌<◌, ◌≤◌, true, false, List, [], ◌∷◌, ◌++◌, length, map, take, get_or, slice_index, inl, inr, refl, sym, ◌∙◌, ap, subst, arith}
use Rattle.std.proofs.lemmas.List.{take_more, get_or_default, get_or-map, length-map, length-take-le, take_all, map-append, length-append}
use Rattle.std.specs.List.{HoldsAt}
use borrow.Author.Count.{below_more}
use Rattle.lw_read.specs.declared.lexer.Token.{Token}
use Rattle.lw_read.specs.declared.text_fault.TextFault.{TextFault}
use Rattle.lw_read.specs.declared.text_fault.TextFault.TheVariants as fault
use Rattle.lw_read.specs.Tokens.{tokens_of, AreInOrder}
use Rattle.lw_read.specs.Places.{nesting_limit, Begins, HasUnfinished, IsFine, AreFine}
use Rattle.lw_read.specs.Language.{Language, grammar_of, lexemes_in, ReadsIn, IsFaultIn}
use Rattle.lw_read.specs.Machine.{Machine, run, heights, IsDone, IsReaderOf, IsTaken, Refuses}
use Rattle.lw_read.proofs.TokenSteps.{tokens_from-last, tokens-order, token_within}

module _ {A T S : Type 0} (M : Machine A T S) where
  pub run-append : (ts us : List A) (s : S) → run M (ts ++ us) s ≡ run M us (run M ts s)
  run-append [] us s = refl
  run-append (t ∷ ts) us s = run-append ts us (M.step t s)

  pub run-astray : ((t : A) → M.step t M.astray ≡ M.astray) → (ts : List A) → run M ts M.astray ≡ M.astray
  run-astray lost [] = refl
  run-astray lost (t ∷ ts) = ap (run M ts) (lost t) ∙ run-astray lost ts

  pub heights-at : (i : ℕ) (us rest : List A) (s : S) → length us ≡ i + 1 → slice_index (heights M (us ++ rest) s) i ≡ M.height (run M us s)
  heights-at zero [] rest s = λ h. absurd (omega arith)
  heights-at zero (t ∷ []) rest s = λ h. refl
  heights-at zero (t ∷ u ∷ us) rest s = λ h. absurd (omega arith)
  heights-at (suc i) [] rest s = λ h. absurd (omega arith)
  heights-at (suc i) (t ∷ us) rest s = λ h. heights-at i us rest (M.step t s) (omega arith)

-- so many tokens of a text have no fault, and led to this state
pub record Reached {A T S : Type 0} (L : Language A T) (M : Machine A T S) (text : List ℕ) (i : ℕ) (s : S) : Type 0 where
  pub is : s ≡ run M (take i (lexemes_in L text)) M.start
  pub fine : AreFine (grammar_of L) (lexemes_in L text) i
  pub low : M.height s ≤ nesting_limit

module _ {A T S : Type 0} (L : Language A T) (M : Machine A T S) (reads : IsReaderOf L M) where
  -- where the machine is astray, no text goes on
  pub dead : (ts : List A) → run M ts M.start ≡ M.astray → Begins (grammar_of L) ts → ⊥
  dead ts astray begins =
      let over = reads.accepts (ts ++ begins.0) begins.1.0 begins.1.1 in
      let parts = run-append M ts begins.0 M.start in
      let lost = ap (run M begins.0) astray ∙ run-astray M reads.lost begins.0 in
      reads.apart begins.1.0 (sym over ∙ parts ∙ lost)

  -- where it isn't, some text goes on, with as many unfinished constructs as its stack is high
  pub alive : (ts : List A) (i : ℕ) → i < length ts → run M (take (i + 1) ts) M.start ≢ M.astray → HasUnfinished (grammar_of L) ts i (M.height (run M (take (i + 1) ts) M.start))
  alive ts i h on =
      let us = take (i + 1) ts in
      let more = reads.completes us on in
      (more.0, more.1, ap (λ counts. slice_index counts i) (reads.counts (us ++ more.0) more.1.0 more.1.1) ∙ heights-at M i us more.0 M.start (length-take-le (i + 1) ts (omega arith)))

  -- what the i-th token of a text is
  lexeme-at : (text : List ℕ) (i : ℕ) (d : Token) → i < length (tokens_of text) → get_or (lexemes_in L text) i (L.lexeme_of text d) ≡ L.lexeme_of text (get_or (tokens_of text) i d)
  lexeme-at text i d h = get_or-map (L.lexeme_of text) (tokens_of text) i d (L.lexeme_of text d) h

  within : (text : List ℕ) (i : ℕ) → i < length (tokens_of text) → i < length (lexemes_in L text)
  within text i h = let same = length-map (tokens_of text) (L.lexeme_of text) in omega arith

  holds : (P : A → Type 0) (text : List ℕ) (i : ℕ) (d : Token) → i < length (tokens_of text) → P (L.lexeme_of text (get_or (tokens_of text) i d)) → HoldsAt P (lexemes_in L text) i
  holds P text i d h p = λ e. subst P (sym (lexeme-at text i d h) ∙ get_or_default (lexemes_in L text) i (L.lexeme_of text d) e (within text i h)) p

  -- the state behind the next token
  next : (text : List ℕ) (i : ℕ) (s : S) (d : Token) → i < length (tokens_of text) → Reached L M text i s → M.step (L.lexeme_of text (get_or (tokens_of text) i d)) s ≡ run M (take (i + 1) (lexemes_in L text)) M.start
  next text i s d h r =
      let ts = lexemes_in L text in
      let t = L.lexeme_of text (get_or (tokens_of text) i d) in
      let one : take (i + 1) ts ≡ take i ts ++ t ∷ [] = take_more ts i (L.lexeme_of text d) (within text i h) ∙ ap (λ u. take i ts ++ u ∷ []) (lexeme-at text i d h) in
      ap (M.step t) r.is ∙ sym (run-append M (take i ts) (t ∷ []) M.start) ∙ ap (λ us. run M us M.start) (sym one)

  -- the count at the next token
  counted : (text : List ℕ) (i : ℕ) (s : S) (d : Token) → i < length (tokens_of text) → Reached L M text i s → M.step (L.lexeme_of text (get_or (tokens_of text) i d)) s ≢ M.astray → HasUnfinished (grammar_of L) (lexemes_in L text) i (M.height (M.step (L.lexeme_of text (get_or (tokens_of text) i d)) s))
  counted text i s d h r on =
      let is = next text i s d h r in
      subst (λ n. HasUnfinished (grammar_of L) (lexemes_in L text) i n) (ap M.height (sym is)) (alive (lexemes_in L text) i (within text i h) (λ astray. on (is ∙ astray)))

  pub Reached-none : (text : List ℕ) → Reached L M text 0 M.start
  Reached-none text = record { is = refl; fine = λ i h. absurd (omega arith); low = omega (arith, reads.bare) }

  pub Reached-more : (text : List ℕ) (i : ℕ) (s : S) (d : Token) → i < length (tokens_of text) → Reached L M text i s → IsTaken L M (L.lexeme_of text (get_or (tokens_of text) i d)) (M.step (L.lexeme_of text (get_or (tokens_of text) i d)) s) → M.height (M.step (L.lexeme_of text (get_or (tokens_of text) i d)) s) ≤ nesting_limit → Reached L M text (i + 1) (M.step (L.lexeme_of text (get_or (tokens_of text) i d)) s)
  Reached-more text i s d h r taken low = record {
    is = next text i s d h r;
    fine = below_more (IsFine (grammar_of L) (lexemes_in L text)) i r.fine (holds (λ t. L.is_long t ≡ false) text i d h taken.short, (M.height (M.step (L.lexeme_of text (get_or (tokens_of text) i d)) s), counted text i s d h r taken.on, low));
    low = low;
  }

  -- what the machine refuses is the first fault
  pub tells : (text : List ℕ) (i : ℕ) (s : S) (d : Token) → i < length (tokens_of text) → Reached L M text i s → (e : TextFault) → Refuses L M (L.lexeme_of text (get_or (tokens_of text) i d)) (M.step (L.lexeme_of text (get_or (tokens_of text) i d)) s) (get_or (tokens_of text) i d) e → IsFaultIn L text e
  tells text i s d h r (fault.Unexpected token) is =
      (i, (within text i h, r.fine, dead (take (i + 1) (lexemes_in L text)) (sym (next text i s d h r) ∙ is.0)), λ e. get_or_default (tokens_of text) i e d h ∙ sym is.1)
  tells text i s d h r (fault.TooLong token) is =
      let begins = counted text i s d h r is.0 in
      (i, (within text i h, r.fine, (begins.0, begins.1), holds (λ t. L.is_long t ≡ true) text i d h is.1), λ e. get_or_default (tokens_of text) i e d h ∙ sym is.2)
  tells text i s d h r (fault.Nested token) is =
      (i, (within text i h, r.fine, holds (λ t. L.is_long t ≡ false) text i d h is.1, (M.height (M.step (L.lexeme_of text (get_or (tokens_of text) i d)) s), counted text i s d h r is.0, is.2)), λ e. get_or_default (tokens_of text) i e d h ∙ sym is.3)
  tells text i s d h r fault.Memory is = tt

  all : (text : List ℕ) (i : ℕ) → length (tokens_of text) ≤ i → take i (lexemes_in L text) ≡ lexemes_in L text
  all text i low = let same = length-map (tokens_of text) (L.lexeme_of text) in take_all i (lexemes_in L text) (omega arith)

  -- behind the last token of a text without a fault stands its tree
  pub whole : (text : List ℕ) (i : ℕ) (s : S) (a : T) → length (tokens_of text) ≤ i → i ≤ length (tokens_of text) → Reached L M text i s → s ≡ M.over a → ReadsIn L text a
  whole text i s a low high r over =
      let same = length-map (tokens_of text) (L.lexeme_of text) in
      (subst (AreFine (grammar_of L) (lexemes_in L text)) (omega arith) r.fine, reads.sound (lexemes_in L text) a (ap (λ us. run M us M.start) (sym (all text i low)) ∙ sym r.is ∙ over))

  -- no text is left open behind its last token
  done : (text : List ℕ) → IsDone M (run M (lexemes_in L text) M.start)
  done text =
      let last = tokens_from-last 0 0 text in
      let is : lexemes_in L text ≡ map (L.lexeme_of text) last.front ++ L.lexeme_of text last.last ∷ [] = ap (map (L.lexeme_of text)) last.is ∙ map-append (L.lexeme_of text) last.front (last.last ∷ []) in
      let before = run M (map (L.lexeme_of text) last.front) M.start in
      subst (IsDone M) (sym (ap (λ us. run M us M.start) is ∙ run-append M (map (L.lexeme_of text) last.front) (L.lexeme_of text last.last ∷ []) M.start)) (reads.stops text last.last before last.kind)

  -- behind the last token of a text without a fault the text is over
  pub ends-over : (text : List ℕ) (i : ℕ) (s : S) → length (tokens_of text) ≤ i → i ≤ length (tokens_of text) → Reached L M text i s → (a : T) × (s ≡ M.over a)
  ends-over text i s low high r =
      let ts = lexemes_in L text in
      let is : s ≡ run M ts M.start = r.is ∙ ap (λ us. run M us M.start) (all text i low) in
      elim (done text) [
        | inl astray ↦
            let last = tokens_from-last 0 0 text in
            let some : 0 < length (tokens_of text) = subst (λ (us : List Token). 0 < length us) (sym last.is) (simp length-append (omega arith)) in
            let before = r.fine (i - 1) (omega arith) in
            let same : i - 1 + 1 ≡ i = omega arith in
            let lost = ap (λ n. run M (take n ts) M.start) same ∙ sym r.is ∙ is ∙ astray in
            absurd (dead (take (i - 1 + 1) ts) lost (before.1.1.0, before.1.1.1))
        | inr over ↦ (over.0, is ∙ over.1)
      ]

-- each token of a text lies within it
pub token-fits : (text : List ℕ) (i : ℕ) (d : Token) → i < length (tokens_of text) → ((get_or (tokens_of text) i d).start ≤ (get_or (tokens_of text) i d).end) × ((get_or (tokens_of text) i d).end ≤ length text)
token-fits text i d h = token_within (tokens_of text) 0 (length text) i d (tokens-order text) h

next-start : (ts : List Token) (from end i : ℕ) (d e : Token) → AreInOrder from ts end → suc i < length ts → (get_or ts i d).end ≤ (get_or ts (suc i) e).start
next-start [] from end i d e o h = absurd (omega arith)
next-start (t ∷ []) from end i d e o h = absurd (omega arith)
next-start (t ∷ u ∷ us) from end zero d e o h = o.2.0
next-start (t ∷ u ∷ us) from end (suc i) d e o h = next-start (u ∷ us) t.end end i d e o.2 (omega arith)

-- each token of a text begins behind the one before it
pub token-next : (text : List ℕ) (i : ℕ) (d e : Token) → i + 1 < length (tokens_of text) → (get_or (tokens_of text) i d).end ≤ (get_or (tokens_of text) (i + 1) e).start
token-next text i d e h =
    let one : suc i ≡ i + 1 = omega arith in
    subst (λ n. (get_or (tokens_of text) i d).end ≤ (get_or (tokens_of text) n e).start) one (next-start (tokens_of text) 0 (length text) i d e (tokens-order text) (omega arith))
