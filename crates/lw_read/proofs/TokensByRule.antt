-- The tokens of a text are those of the rule of tokens, and no others are.
use Rattle.std.proofs.Common.{Some, unwrap_or, ◌≡◌, ℕ, zero, suc, ◌+◌, ◌-◌, ◌<◌, ◌≤◌, ◌==◌, Bool, true, false, List, [], ◌∷◌, ◌++◌, length, take, drop, take_while, get_or, ◌⊎◌, inl, inr, refl, sym, ◌∙◌, ap, subst, arith, All, length-drop, drop-cons, cond}
use Rattle.std.specs.List.{slice_get, list_all, prefix_len}
use Rattle.std.proofs.lemmas.List.{drop-drop, drop_all, take_all, length-take-le, take-append-drop}
use Rattle.std.proofs.lemmas.List.Sums.{prefix_len-le-length, prefix_len_stops}
use Rattle.std.proofs.lemmas.List.Folds.{length-prefix_len}
use Rattle.std.proofs.lemmas.List.Elements.{All-head, All-tail, All-cons, All-nil}
use Rattle.std.proofs.lemmas.Option.{slice_get_within}
use Rattle.std.proofs.lemmas.Bool.{false≢true, cases_lt}
use Rattle.std.proofs.lemmas.Bool.Decides.{nat_tests}
use Rattle.lw_read.specs.declared.lexer.Front.{Front}
use Rattle.lw_read.specs.declared.lexer.Front.TheVariants.{Blank, Piece, Wrong}
use Rattle.lw_read.specs.declared.lexer.Token.{Token}
use Rattle.lw_read.specs.declared.lexer.TokenKind.{TokenKind}
use Rattle.lw_read.specs.declared.lexer.TokenKind.TheVariants.{Bad, Stop}
use Rattle.lw_read.specs.Tokens.{is_space, is_comment_byte, front_of, tokens_at, tokens_from, tokens_of}
use Rattle.lw_read.specs.TokenRule.{IsTokenText, IsTokenAt, IsComment, IsBlank, nothing, space, comment, AreParted, IsLongest, IsStop, IsBad, AreTokens}
use Rattle.lw_read.proofs.TokenSteps.{FitsIn, front-fits, tokens_from-blank, tokens_from-piece, tokens_from-wrong, tokens_end}
use Rattle.lw_read.proofs.LexemeSteps.{slice-is}
use Rattle.lw_read.proofs.TokenTexts.{run-passes, run-longest, run-before, Says, front-says, no-token, same-kind}

-- the byte at a place is the first of those from there on
get-drop : (text : List ℕ) (at b : ℕ) (bytes : List ℕ) → drop at text ≡ b ∷ bytes → slice_get text at ≡ Some b
get-drop [] zero b bytes is = absurd (cc)
get-drop [] (suc at) b bytes is = absurd (cc)
get-drop (x ∷ text) zero b bytes is = ap (λ xs. slice_get xs 0) is
get-drop (x ∷ text) (suc at) b bytes is = get-drop text at b bytes is

drop-get : (text : List ℕ) (at b : ℕ) → slice_get text at ≡ Some b → drop at text ≡ b ∷ drop (suc at) text
drop-get [] at b is = absurd (cc)
drop-get (x ∷ text) zero b is = ap (λ o. unwrap_or o 0 ∷ text) is
drop-get (x ∷ text) (suc at) b is = drop-get text at b is

same-byte : (text : List ℕ) (at b c : ℕ) → slice_get text at ≡ Some b → slice_get text at ≡ Some c → b ≡ c
same-byte text at b c is also = ap (λ o. unwrap_or o 0) (sym is ∙ also)

-- the bytes behind the first one
behind : (text : List ℕ) (at b : ℕ) (bytes : List ℕ) → drop at text ≡ b ∷ bytes → drop (at + 1) text ≡ bytes
behind text at b bytes is = sym (drop-drop 1 at text) ∙ ap (drop 1) is

-- white space and comments one behind another
IsBlank-append : {text : List ℕ} {at mid end : ℕ} → IsBlank text at mid → IsBlank text mid end → IsBlank text at end
IsBlank-append nothing more = more
IsBlank-append (space b get is rest) more = space b get is (IsBlank-append rest more)
IsBlank-append (comment is rest) more = comment is (IsBlank-append rest more)

-- a byte that begins neither
bare : {text : List ℕ} {at end : ℕ} (b : ℕ) → slice_get text at ≡ Some b → is_space b ≡ false → (b == 35) ≡ false → IsBlank text at end → end ≡ at
bare b get free hash nothing = refl
bare {text} {at} b get free hash (space c here is rest) = absurd (false≢true (sym free ∙ ap is_space (same-byte text at b c get here) ∙ is))
bare {text} {at} b get free hash (comment is rest) = let same = same-byte text at b 35 get is.begins in absurd (grind (arith, nat_tests))

-- a place of a text, and the bytes from it on
record Stands (text : List ℕ) (at b : ℕ) (bytes : List ℕ) : Type 0 where
  is : drop at text ≡ b ∷ bytes
  len : at + suc (length bytes) ≡ length text

stands : (text : List ℕ) (at b : ℕ) (bytes : List ℕ) → drop at text ≡ b ∷ bytes → Stands text at b bytes
stands text at b bytes is =
    let cut = length-drop at text in
    let long : length (drop at text) ≡ suc (length bytes) = ap length is in
    record { is = is; len = omega arith }

-- a token of the text is one at the front of the bytes
at-front : (text : List ℕ) (at b : ℕ) (bytes : List ℕ) → Stands text at b bytes → (kind : TokenKind) (end : ℕ) → IsTokenAt text kind at end → (end - at ≤ suc (length bytes)) × IsTokenText kind (take (end - at) (b ∷ bytes))
at-front text at b bytes here kind end is =
    let len = here.len in
    (omega (arith, is.0, len), subst (λ xs. IsTokenText kind (take (end - at) xs)) here.is is.1)

to-place : (text : List ℕ) (at b : ℕ) (bytes : List ℕ) → Stands text at b bytes → (kind : TokenKind) (n : ℕ) → n ≤ suc (length bytes) → IsTokenText kind (take n (b ∷ bytes)) → IsTokenAt text kind at (at + n)
to-place text at b bytes here kind n fits is =
    let len = here.len in
    (omega (arith, fits, len), subst (IsTokenText kind) (sym (slice-is text (b ∷ bytes) at n here.is)) is)

-- what the lexer takes for white space or a comment is it
comment-is : (text : List ℕ) (at b : ℕ) (bytes : List ℕ) → Stands text at b bytes → (n : ℕ) → (0 < n) × (n ≤ suc (length bytes)) → n ≡ prefix_len is_comment_byte (b ∷ bytes) → b ≡ 35 → IsComment text at (at + n)
comment-is text at b bytes here n fits run hash =
    let xs = b ∷ bytes in
    let len = here.len in
    record {
      begins = get-drop text at b bytes here.is ∙ ap Some hash;
      some = omega (arith, fits.0);
      line = ap (list_all is_comment_byte) (slice-is text xs at n here.is ∙ ap (λ m. take m xs) run) ∙ run-passes is_comment_byte xs;
      ends = elim (cases_lt n (length xs)) [
        | inl within ↦
            let stops : is_comment_byte (get_or xs n 0) ≡ false = ap (λ m. is_comment_byte (get_or xs m 0)) run ∙ prefix_len_stops is_comment_byte xs 0 (subst (λ m. m < length xs) run within) in
            let feed : get_or xs n 0 ≡ 10 = grind (arith, nat_tests) in
            let next = sym (drop-drop n at text) ∙ ap (drop n) here.is ∙ drop-cons xs n 0 within in
            inr (get-drop text (at + n) (get_or xs n 0) (drop (suc n) xs) next ∙ ap Some feed)
        | inr past ↦ inl (omega (arith, fits.1, len, past))
      ];
    }

blank-is : (text : List ℕ) (at b : ℕ) (bytes : List ℕ) → Stands text at b bytes → (n : ℕ) → (0 < n) × (n ≤ suc (length bytes)) → Says (b ∷ bytes) (Blank n) → IsBlank text at (at + n)
blank-is text at b bytes here n fits says = elim says.0 [
  | inl one ↦ subst (λ m. IsBlank text at (at + m)) (sym one.0) (space b (get-drop text at b bytes here.is) one.1 nothing)
  | inr more ↦ comment (comment-is text at b bytes here n fits more.0 more.1) nothing
]

piece-is : (text : List ℕ) (at b : ℕ) (bytes : List ℕ) → Stands text at b bytes → (kind : TokenKind) (n : ℕ) → n ≤ suc (length bytes) → Says (b ∷ bytes) (Piece kind n) → IsLongest text (record { kind = kind; start = at; end = at + n })
piece-is text at b bytes here kind n fits says = record {
  is = to-place text at b bytes here kind n fits says.0;
  longest = λ other end is.
      let front = at-front text at b bytes here other end is in
      let most = says.1 other (end - at) front.0 front.1 in
      omega (arith, most);
}

bad-is : (text : List ℕ) (at b : ℕ) (bytes : List ℕ) → Stands text at b bytes → Says (b ∷ bytes) Wrong → IsBad text (record { kind = Bad; start = at; end = at + 1 })
bad-is text at b bytes here says =
    let len = here.len in
    record {
      kind = refl;
      within = omega (arith, len);
      one = refl;
      token = λ kind end is. let front = at-front text at b bytes here kind end is in says.2 kind (end - at) front.0 front.1;
      blank = λ end is. bare b (get-drop text at b bytes here.is) says.0 says.1 is;
    }

-- the tokens of a text from a place on
record TokensFrom (text : List ℕ) (from : ℕ) (tokens : List Token) : Type 0 where
  parted : AreParted text from tokens
  front : List Token
  last : Token
  is : tokens ≡ front ++ last ∷ []
  longest : All (IsLongest text) front
  ends : IsStop text last ⊎ IsBad text last

from-piece : (text : List ℕ) (from : ℕ) (t : Token) (tokens : List Token) → IsBlank text from t.start → IsLongest text t → TokensFrom text t.end tokens → TokensFrom text from (t ∷ tokens)
from-piece text from t tokens blank is rest = record {
  parted = (blank, rest.parted);
  front = t ∷ rest.front;
  last = rest.last;
  is = ap (λ ts. t ∷ ts) rest.is;
  longest = All-cons (IsLongest text) t rest.front is rest.longest;
  ends = rest.ends;
}

from-place : (text : List ℕ) (skipped at from : ℕ) (bytes : List ℕ) → drop at text ≡ bytes → at + length bytes ≡ length text → skipped ≤ length bytes → IsBlank text from (at + skipped) → TokensFrom text from (tokens_from skipped at bytes)
unfolding tokens_from
from-place text skipped at from [] is len fits blank =
    let here : at + skipped ≡ at = omega arith in
    record {
      parted = (subst (IsBlank text from) here blank, tt);
      front = [];
      last = record { kind = Stop; start = at; end = at };
      is = refl;
      longest = All-nil (IsLongest text);
      ends = inl (record { kind = refl; start = omega arith; end = omega arith });
    }
from-place text (suc skipped) at from (b ∷ bytes) is len fits blank =
    from-place text skipped (at + 1) from bytes (behind text at b bytes is) (omega arith) (omega arith) (subst (IsBlank text from) (omega arith) blank)
from-place text zero at from (b ∷ bytes) is len fits blank =
    let next = λ (n to : ℕ) (h : n ≤ length bytes) (low : IsBlank text to (at + 1 + n)). from-place text n (at + 1) to bytes (behind text at b bytes is) (omega arith) h low in
    let low : IsBlank text from at = subst (IsBlank text from) (omega arith) blank in
    step (front_of (b ∷ bytes)) (stands text at b bytes is) low (front-fits (b ∷ bytes)) (front-says b bytes) next
  where
    step : (f : Front) → Stands text at b bytes → IsBlank text from at → FitsIn (suc (length bytes)) f → Says (b ∷ bytes) f
        → ((n to : ℕ) → n ≤ length bytes → IsBlank text to (at + 1 + n) → TokensFrom text to (tokens_from n (at + 1) bytes))
        → TokensFrom text from (tokens_at f at (λ len. tokens_from (len - 1) (at + 1) bytes))
    step (Blank n) here low fits says next =
        let place : at + n ≡ at + 1 + (n - 1) = omega (arith, fits.0) in
        next (n - 1) from (omega (arith, fits.1)) (IsBlank-append low (subst (IsBlank text at) place (blank-is text at b bytes here n fits says)))
    step (Piece kind n) here low fits says next =
        let place : at + n ≡ at + 1 + (n - 1) = omega (arith, fits.0) in
        let rest = next (n - 1) (at + n) (omega (arith, fits.1)) (subst (IsBlank text (at + n)) place nothing) in
        from-piece text from (record { kind = kind; start = at; end = at + n }) _ low (piece-is text at b bytes here kind n fits.1 says) rest
    step Wrong here low fits says next = record {
      parted = (low, tt);
      front = [];
      last = record { kind = Bad; start = at; end = at + 1 };
      is = refl;
      longest = All-nil (IsLongest text);
      ends = inr (bad-is text at b bytes here says);
    }

-- the tokens of a text keep the rule
pub rule : (text : List ℕ) → AreTokens text (tokens_of text)
rule text =
    let whole = from-place text 0 0 0 text refl (omega arith) (omega arith) (subst (IsBlank text 0) (omega arith) nothing) in
    record { parted = whole.parted; front = whole.front; last = whole.last; is = whole.is; longest = whole.longest; ends = whole.ends }

-- the lexer skips white space and comments
front-space : (b : ℕ) (bytes : List ℕ) → is_space b ≡ true → Blank 1 ≡ front_of (b ∷ bytes)
unfolding front_of
front-space b bytes is = chosen (is_space b) (Blank 1) _ is
  where
    chosen : (c : Bool) (f g : Front) → c ≡ true → f ≡ cond c f g
    chosen true f g = λ h. refl
    chosen false f g = λ h. absurd (false≢true h)

front-comment : (bytes : List ℕ) → Blank (length (take_while is_comment_byte (35 ∷ bytes))) ≡ front_of (35 ∷ bytes)
unfolding front_of
front-comment bytes = refl

-- a comment is as long as the run of its bytes
comment-len : (text : List ℕ) (at end : ℕ) (bytes : List ℕ) → Stands text at 35 bytes → IsComment text at end → at + length (take_while is_comment_byte (35 ∷ bytes)) ≡ end
comment-len text at end bytes here is =
    let xs = 35 ∷ bytes in
    let n = end - at in
    let len = here.len in
    let some = is.some in
    let run = length-prefix_len is_comment_byte xs in
    let line : list_all is_comment_byte (take n xs) ≡ true = subst (λ ys. list_all is_comment_byte (take n ys) ≡ true) here.is is.line in
    elim is.ends [
      | inl last ↦
          let most = prefix_len-le-length is_comment_byte xs in
          let least = run-longest is_comment_byte xs n (omega (arith, last, len)) line in
          omega (arith, last, len, most, least, run, some)
      | inr feed ↦
          let within = slice_get_within text end 10 feed in
          let rest : drop n xs ≡ 10 ∷ drop (suc end) text =
          ap (drop n) (sym here.is) ∙ drop-drop n at text ∙ ap (λ m. drop m text) (omega (arith, some)) ∙ drop-get text end 10 feed in
          let whole : xs ≡ take n xs ++ 10 ∷ drop (suc end) text = sym (take-append-drop n xs) ∙ ap (λ ys. take n xs ++ ys) rest in
          let held : prefix_len is_comment_byte xs ≡ length (take n xs) = ap (prefix_len is_comment_byte) whole ∙ run-before is_comment_byte (take n xs) 10 (drop (suc end) text) line refl in
          let cut = length-take-le n xs (omega (arith, within, len)) in
          omega (arith, held, cut, run, some)
    ]

one-blank : (text : List ℕ) (at n b : ℕ) (bytes : List ℕ) → drop at text ≡ b ∷ bytes → Blank n ≡ front_of (b ∷ bytes) → tokens_from 0 at (drop at text) ≡ tokens_from 0 (at + n) (drop (at + n) text)
one-blank text at n b bytes is front =
    let len : length (drop at text) ≡ suc (length bytes) = ap length is in
    tokens_from-blank at n (drop at text) (omega arith) (front ∙ ap front_of (sym is))
    ∙ ap (λ bytes. tokens_from 0 (at + n) bytes) (drop-drop n at text)

skip-blank : {text : List ℕ} {at end : ℕ} → IsBlank text at end → tokens_from 0 at (drop at text) ≡ tokens_from 0 end (drop end text)
skip-blank nothing = refl
skip-blank {text} {at} (space b get is rest) =
    one-blank text at 1 b (drop (suc at) text) (drop-get text at b get) (front-space b (drop (suc at) text) is) ∙ skip-blank rest
skip-blank {text} {at} (comment {mid = mid} is rest) =
    let bytes = drop (suc at) text in
    let here = drop-get text at 35 is.begins in
    let len = comment-len text at mid bytes (stands text at 35 bytes here) is in
    one-blank text at (length (take_while is_comment_byte (35 ∷ bytes))) 35 bytes here (front-comment bytes)
    ∙ ap (λ m. tokens_from 0 m (drop m text)) len ∙ skip-blank rest

-- a token is the lexer's
one-token : (text : List ℕ) (t : Token) → IsLongest text t → (b : ℕ) (bytes : List ℕ) → drop t.start text ≡ b ∷ bytes → t ∷ tokens_from 0 t.end (drop t.end text) ≡ tokens_from 0 t.start (drop t.start text)
one-token text t is b bytes here = step (front_of (b ∷ bytes)) refl (front-fits (b ∷ bytes)) (front-says b bytes)
  where
    step : (f : Front) → f ≡ front_of (b ∷ bytes) → FitsIn (suc (length bytes)) f → Says (b ∷ bytes) f → t ∷ tokens_from 0 t.end (drop t.end text) ≡ tokens_from 0 t.start (drop t.start text)
    step (Blank n) same fits says =
        let front = at-front text t.start b bytes (stands text t.start b bytes here) t.kind t.end is.is in
        absurd (says.1 t.kind (t.end - t.start) front.0 front.1)
    step Wrong same fits says =
        let front = at-front text t.start b bytes (stands text t.start b bytes here) t.kind t.end is.is in
        absurd (says.2 t.kind (t.end - t.start) front.0 front.1)
    step (Piece kind n) same fits says =
        let place = stands text t.start b bytes here in
        let front = at-front text t.start b bytes place t.kind t.end is.is in
        let most = says.1 t.kind (t.end - t.start) front.0 front.1 in
        let least = is.longest kind (t.start + n) (to-place text t.start b bytes place kind n fits.1 says.0) in
        let end : t.end ≡ t.start + n = omega (arith, most, least) in
        let cut : t.end - t.start ≡ n = omega (arith, end) in
        let own : IsTokenText t.kind (take n (b ∷ bytes)) = subst (λ m. IsTokenText t.kind (take m (b ∷ bytes))) cut front.1 in
        let kinds = same-kind (take n (b ∷ bytes)) t.kind kind own says.0 in
        let len : length (drop t.start text) ≡ suc (length bytes) = ap length here in
        let found = tokens_from-piece t.start n kind (drop t.start text) (omega arith) (same ∙ ap front_of (sym here)) in
        let token : t ≡ record { kind = kind; start = t.start; end = t.start + n } = λ i. record { kind = kinds i; start = t.start; end = end i } in
        ap (λ m. t ∷ tokens_from 0 m (drop m text)) end
        ∙ ap (λ u. u ∷ tokens_from 0 (t.start + n) (drop (t.start + n) text)) token
        ∙ ap (λ ys. record { kind = kind; start = t.start; end = t.start + n } ∷ tokens_from 0 (t.start + n) ys) (sym (drop-drop n t.start text))
        ∙ sym found

-- the last token is the lexer's
last-stop : (text : List ℕ) (t : Token) → IsStop text t → t ∷ [] ≡ tokens_from 0 t.start (drop t.start text)
last-stop text t is =
    let token : t ≡ record { kind = Stop; start = t.start; end = t.start } = λ i. record { kind = is.kind i; start = t.start; end = (is.end ∙ sym is.start) i } in
    let start = is.start in
    ap (λ u. u ∷ []) token ∙ sym (tokens_end text t.start (omega arith))

last-bad : (text : List ℕ) (t : Token) → IsBad text t → (b : ℕ) (bytes : List ℕ) → drop t.start text ≡ b ∷ bytes → t ∷ [] ≡ tokens_from 0 t.start (drop t.start text)
last-bad text t is b bytes here = step (front_of (b ∷ bytes)) refl (front-fits (b ∷ bytes)) (front-says b bytes)
  where
    step : (f : Front) → f ≡ front_of (b ∷ bytes) → FitsIn (suc (length bytes)) f → Says (b ∷ bytes) f → t ∷ [] ≡ tokens_from 0 t.start (drop t.start text)
    step (Blank n) same fits says =
        let none = is.blank (t.start + n) (blank-is text t.start b bytes (stands text t.start b bytes here) n fits says) in
        absurd (omega (arith, fits.0, none))
    step (Piece kind n) same fits says =
        absurd (is.token kind (t.start + n) (to-place text t.start b bytes (stands text t.start b bytes here) kind n fits.1 says.0))
    step Wrong same fits says =
        let len : length (drop t.start text) ≡ suc (length bytes) = ap length here in
        let token : t ≡ record { kind = Bad; start = t.start; end = t.start + 1 } = λ i. record { kind = is.kind i; start = t.start; end = is.one i } in
        ap (λ u. u ∷ []) token ∙ sym (tokens_from-wrong t.start (drop t.start text) (omega arith) (same ∙ ap front_of (sym here)))

-- a token begins within the text
begins-within : (text : List ℕ) (t : Token) → IsLongest text t → t.start < length text
begins-within text t is = elim (cases_lt t.start (length text)) [
  | inl within ↦ within
  | inr past ↦ absurd (no-token t.kind (subst (IsTokenText t.kind) (ap (take (t.end - t.start)) (drop_all t.start text past) ∙ take_all (t.end - t.start) [] (omega arith)) is.is.1))
]

only-from : (text : List ℕ) (front : List Token) (last : Token) (from : ℕ) → AreParted text from (front ++ last ∷ []) → All (IsLongest text) front → (IsStop text last ⊎ IsBad text last) → front ++ last ∷ [] ≡ tokens_from 0 from (drop from text)
only-from text [] last from parted longest (inl stop) = last-stop text last stop ∙ sym (skip-blank parted.0)
only-from text [] last from parted longest (inr bad) =
    last-bad text last bad _ _ (drop-cons text last.start 0 bad.within) ∙ sym (skip-blank parted.0)
only-from text (t ∷ front) last from parted longest ends =
    let is = All-head (IsLongest text) t front longest in
    ap (λ ts. t ∷ ts) (only-from text front last t.end parted.1 (All-tail (IsLongest text) t front longest) ends)
    ∙ one-token text t is _ _ (drop-cons text t.start 0 (begins-within text t is))
    ∙ sym (skip-blank parted.0)

-- tokens that keep the rule are those of the text
pub only : (text : List ℕ) (tokens : List Token) → AreTokens text tokens → tokens ≡ tokens_of text
only text tokens are =
    are.is ∙ only-from text are.front are.last 0 (subst (AreParted text 0) are.is are.parted) are.longest are.ends
