-- The binary digits of a number are its remainder by two, and then those of its half.
use Rattle.std.proofs.Common.{◌≡◌, ◌≤◌, ◌<◌, ◌+◌, ◌-◌, ◌*◌, ◌/◌, ◌%◌, ℕ, zero, suc, Bool, true, false, nat_eq, List, [], ◌∷◌, ◌++◌, reverse, refl, sym, ◌∙◌, ap, arith}
use Rattle.std.proofs.lemmas.List.{reverse-append}
use Rattle.std.proofs.Math.Nat.{div-add-mod, mod-lt}
use Rattle.lw_formula.specs.Formula.{Formula}
use Rattle.lw_gen.specs.Families.{digits, word, under, modality, next}

-- the digits of twice a number
doubled : (n m : ℕ) → 1 ≤ n → m ≡ 2 * n → digits m ≡ false ∷ digits n
doubled zero m l e = absurd (omega (arith, l))
doubled (suc zero) m l e = ap digits e
doubled (suc (suc k)) m l e =
    let j : ℕ = 2 * k + 1 in
    let at : m ≡ suc (suc (suc j)) = omega (arith, e) in
    let back : suc j ≡ 2 * suc k = omega arith in
    ap digits at ∙ ap (λ ds. next (next ds)) (doubled (suc k) (suc j) (omega arith) back)

-- and of one more
doubled_and_one : (n m : ℕ) → 1 ≤ n → m ≡ 2 * n + 1 → digits m ≡ true ∷ digits n
doubled_and_one n m l e =
    let j : ℕ = 2 * n - 1 in
    let at : m ≡ suc (suc j) = omega (arith, e, l) in
    let back : suc j ≡ 2 * n = omega (arith, l) in
    ap digits at ∙ ap next (doubled n (suc j) l back)

-- a number below two has none
pub none_below_two : (n : ℕ) → n < 2 → digits n ≡ []
none_below_two zero l = refl
none_below_two (suc zero) l = refl
none_below_two (suc (suc n)) l = absurd (omega (arith, l))

-- a word with one digit more inside
pub under-push : (ds : List Bool) (d : Bool) (a : Formula) → under (ds ++ d ∷ []) a ≡ under ds (modality d a)
under-push [] d a = refl
under-push (c ∷ ds) d a = ap (modality c) (under-push ds d a)

-- a number from two on has the remainder by two, and then the digits of its half
pub halved : (n : ℕ) → 2 ≤ n → digits n ≡ nat_eq (n % 2) 1 ∷ digits (n / 2)
halved n l =
    let rest : n % 2 < 2 = mod-lt n {m = 2} (omega arith) in
    let whole : 2 * (n / 2) + n % 2 ≡ n = div-add-mod n 2 in
    of_rest (n % 2) (n / 2) n rest (sym whole) (omega (arith, rest, whole, l))
  where
    of_rest : (r q n : ℕ) → r < 2 → n ≡ 2 * q + r → 1 ≤ q → digits n ≡ nat_eq r 1 ∷ digits q
    of_rest zero q n l e h = doubled q n h (omega (arith, e))
    of_rest (suc zero) q n l e h = doubled_and_one q n h (omega (arith, e))
    of_rest (suc (suc r)) q n l e h = absurd (omega (arith, l))

-- the lowest digit is the innermost of the word
pub word-halved : (n : ℕ) (a b : Formula) → 2 ≤ n → b ≡ modality (nat_eq (n % 2) 1) a → under (word (n / 2)) b ≡ under (word n) a
word-halved n a b l e =
    ap (under (word (n / 2))) e
    ∙ sym (under-push (word (n / 2)) (nat_eq (n % 2) 1) a)
    ∙ ap (λ ds. under ds a) (sym (reverse-append (nat_eq (n % 2) 1 ∷ []) (digits (n / 2))))
    ∙ ap (λ ds. under (reverse ds) a) (sym (halved n l))

-- and the outermost of its other reading
pub backward-halved : (n : ℕ) (a b : Formula) → 2 ≤ n → b ≡ under (digits (n / 2)) a → modality (nat_eq (n % 2) 1) b ≡ under (digits n) a
backward-halved n a b l e = ap (modality (nat_eq (n % 2) 1)) e ∙ ap (λ ds. under ds a) (sym (halved n l))
