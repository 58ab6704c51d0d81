-- Which number a word is, by what is parsed of it.
use Rattle.std.proofs.Common.{◌≡◌, ℕ, zero, suc, ◌<◌, ◌≤◌, List, Result, Ok, Err, Some, None, get_or, sym, ◌∙◌, ap, subst, arith, refl}
use Rattle.std.specs.Fmt.{decimal}
use Rattle.std.specs.Str.Parse.{AllDigits, digits_value, ParsesUnsigned}
use Rattle.std.proofs.lemmas.Str.Parse.{IsNumeralModel, parse_plain}
use Rattle.std.proofs.lemmas.Fmt.{first_decimal, decimal_digit, parse-decimal, decimal-digits_value}
use Rattle.std.proofs.lemmas.Result.{OkIff-at_ok}
use Rattle.lw_cli.specs.Private.AskedWords.{IsNumberOf}

own : IsNumeralModel (AllDigits 10) (digits_value 10)
own = record { to = λ ds all. all; from = λ ds all. all; same = λ ds all. refl }

pub no_number : (word : List ℕ) → ¬ (48 < get_or word 0 0) → IsNumberOf word None
no_number word plain n reach is = plain (subst (λ ds. 48 < get_or ds 0 0) (sym is) (first_decimal n reach.0 (omega (arith, reach.1))))

pub number_read : {E : Type 0} (word : List ℕ) (r : Result ℕ E) (n : ℕ) → 48 < get_or word 0 0 → ParsesUnsigned 64 10 word r → r ≡ Ok n → n ≤ 100 → IsNumberOf word (Some n)
number_read word r n plain parses is small =
    let told = OkIff-at_ok r _ _ n (parse_plain own 64 word r parses (λ plus. omega (arith, plain, plus))) is in
    let written = decimal-digits_value own word told.0.0 told.0.1 (λ zero. absurd (omega (arith, plain, zero))) told.0.2 in
    let same : decimal n ≡ word = ap decimal told.1 ∙ written in
    ((one_at_least n (subst (λ ds. 48 < get_or ds 0 0) (sym same) plain), small), sym same)
  where
    one_at_least : (m : ℕ) → 48 < get_or (decimal m) 0 0 → 1 ≤ m
    one_at_least zero above = absurd (omega (arith, above, ap (λ ds. get_or ds 0 0) (decimal_digit 0 (omega arith))))
    one_at_least (suc m) above = omega arith

other_answer : {E : Type 0} (n : ℕ) (e : E) → Err e ≡ Ok n → ⊥
other_answer n e is = absurd (cc)

one_answer : {E : Type 0} (m n : ℕ) (r : Result ℕ E) → r ≡ Ok m → r ≡ Ok n → m ≡ n
one_answer m n r is are = cc

pub nothing_read : {E : Type 0} (word : List ℕ) (r : Result ℕ E) (e : E) → ParsesUnsigned 64 10 word r → r ≡ Err e → IsNumberOf word None
nothing_read word r e parses fails n reach is =
    other_answer n e (sym fails ∙ parse-decimal 64 n word r (omega (arith, reach.1)) (omega (arith, reach.1)) is parses)

pub number_beyond : {E : Type 0} (word : List ℕ) (r : Result ℕ E) (m : ℕ) → ParsesUnsigned 64 10 word r → r ≡ Ok m → 100 < m → IsNumberOf word None
number_beyond word r m parses gives above n reach is =
    let same = one_answer m n r gives (parse-decimal 64 n word r (omega (arith, reach.1)) (omega (arith, reach.1)) is parses) in
    omega (arith, same, above, reach.1)
