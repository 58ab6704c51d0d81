-- The normal form of letterless formulas in GL (Boolos, The Logic of Provability, chapter 7).
use Rattle.std.specs.Prelude.{ℕ, suc, zero, List, [], ◌∷◌, if◌then◌else◌}
use Rattle.lw_formula.specs.Formula.{Formula, falsum, verum, neg, conj, disj, nec}
use Rattle.lw_trace.specs.LetterlessTruth.{TruthByHeight, trace_of}

-- `box^n false`, true at the heights below n alone
abbrev pub is_below : ℕ → Formula
is_below zero = falsum
is_below (suc n) = nec (is_below n)

-- true at the worlds of height n alone: `box false`, and for greater n `box^(n+1) false & ~box^n false`
abbrev pub is_height : ℕ → Formula
is_height zero = nec falsum
is_height (suc n) = conj (is_below (suc (suc n))) (neg (is_below (suc n)))

-- true at the listed heights alone: joined by `v`, grouped to the right, and `false` for none
abbrev pub is_among : List ℕ → Formula
is_among [] = falsum
is_among (n ∷ []) = is_height n
is_among (n ∷ k ∷ ns) = disj (is_height n) (is_among (k ∷ ns))

-- true at all but the listed heights
abbrev pub is_outside : List ℕ → Formula
is_outside [] = verum
is_outside (n ∷ ns) = neg (is_among (n ∷ ns))

-- the formula that has the truth values
abbrev pub form_of : TruthByHeight → Formula
form_of t = if t.rest then is_outside t.heights else is_among t.heights

-- the normal form of a letterless formula
abbrev pub letterless_of : Formula → Formula
letterless_of a = form_of (trace_of a)
