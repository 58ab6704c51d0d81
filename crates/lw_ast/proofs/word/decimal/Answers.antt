use Rattle.std.proofs.Common.{◌≡◌, ℕ, List, [], ◌∷◌, ◌+◌, ◌*◌, ◌-◌, ◌≤◌, ◌∙◌, sym, arith, fold, drop, get_or}
use Rattle.std.proofs.lemmas.List.{at_drop_more}
use Rattle.std.proofs.lemmas.Bool.Decides.{nat_tests}
use Rattle.lw_read.specs.Tokens.{decimal}
use Rattle.lw_ast.proofs.word.decimal.Goals as goal

-- more digits write no smaller number
fold-grows : (n : ℕ) (bytes : List ℕ) → n ≤ fold (λ (n b : ℕ). n * 10 + (b - 48)) n bytes
fold-grows n [] = omega arith
fold-grows n (b ∷ bytes) = let more = fold-grows (n * 10 + (b - 48)) bytes in omega arith

pub returns-then-value-digit-clause-none : goal.returns-then-value-digit-clause-none
returns-then-value-digit-clause-none c =
    let digits = c.args.digits.now in
    let i = c.loop-byte.byte-index in
    let value = c.loop-byte.value in
    let next = value * 10 + (get_or digits i 0 - 48) in
    let more = at_drop_more (fold (λ (n b : ℕ). n * 10 + (b - 48)) value) digits i 0 (omega arith) in
    let grows = fold-grows next (drop (i + 1) digits) in
    let rest : fold (λ (n b : ℕ). n * 10 + (b - 48)) next (drop (i + 1) digits) ≡ decimal digits = sym more ∙ c.loop-byte.invariant in
    let big : 18446744073709551616 ≤ decimal digits = omega arith in
    grind (arith, nat_tests)
