-- What a writer has after several pieces.
use Rattle.std.proofs.Common.{◌≡◌, List, ℕ, ◌++◌, Some, None, Option, ap, sym, ◌∙◌, append_assoc}
use Rattle.std.specs.Io.KnownBytes.{Appends}

-- two pieces, one after the other
Appends-append : (a b c : Option (List ℕ)) (p q : List ℕ) → Appends a b p → Appends b c q → Appends a c (p ++ q)
Appends-append None b c p q first second = tt
Appends-append (Some x) None c p q first second = absurd first
Appends-append (Some x) (Some y) None p q first second = absurd second
Appends-append (Some x) (Some y) (Some z) p q first second = second ∙ ap (λ l. l ++ q) first ∙ append_assoc x p q

-- a writer that has taken the piece up to the rest, and then the front of the rest, has taken the piece up to the back
pub takes_more : (a b c : Option (List ℕ)) (piece part rest front back : List ℕ) → piece ≡ part ++ rest → Appends a b part → rest ≡ front ++ back → Appends b c front → (all : List ℕ) × (piece ≡ all ++ back) × Appends a c all
takes_more a b c piece part rest front back cut first split second =
    (part ++ front, cut ∙ ap (λ l. part ++ l) split ∙ sym (append_assoc part front back), Appends-append a b c part front first second)
