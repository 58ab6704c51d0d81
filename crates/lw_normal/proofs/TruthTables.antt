-- Laws of the truth tables, and of tests of whole lists.
use Rattle.std.proofs.Common.{◌≡◌, Bool, true, false, not, ◌&&◌, ◌||◌, List, [], ◌∷◌, refl, ◌∙◌}
use Rattle.std.specs.Bool.{beq}
use Rattle.std.specs.List.{list_all, list_any}

pub not_not : (a : Bool) → not (not a) ≡ a
not_not true = refl
not_not false = refl

pub not_and : (a b : Bool) → (not a || not b) ≡ not (a && b)
not_and true b = refl
not_and false b = refl

pub not_or : (a b : Bool) → (not a && not b) ≡ not (a || b)
not_or true b = refl
not_or false b = refl

pub not_implies : (a b : Bool) → (a && not b) ≡ not (not a || b)
not_implies true b = refl
not_implies false b = refl

-- two facts are alike where both hold or neither does
pub same_cases : (a b : Bool) → ((a && b) || (not a && not b)) ≡ beq a b
same_cases true true = refl
same_cases true false = refl
same_cases false true = refl
same_cases false false = refl

-- and differ where one holds without the other
pub other_cases : (a b : Bool) → ((a && not b) || (not a && b)) ≡ not (beq a b)
other_cases true true = refl
other_cases true false = refl
other_cases false true = refl
other_cases false false = refl

-- not of all is of some not
pub not_all : {X : Type 0} (p q : X → Bool) → ((x : X) → q x ≡ not (p x)) → (xs : List X) → list_any q xs ≡ not (list_all p xs)
not_all p q each [] = refl
not_all p q each (x ∷ xs) = (λ i. each x i || not_all p q each xs i) ∙ not_and (p x) (list_all p xs)

-- not of some is of all not
pub not_any : {X : Type 0} (p q : X → Bool) → ((x : X) → q x ≡ not (p x)) → (xs : List X) → list_all q xs ≡ not (list_any p xs)
not_any p q each [] = refl
not_any p q each (x ∷ xs) = (λ i. each x i && not_any p q each xs i) ∙ not_or (p x) (list_any p xs)

pub and_false : (a : Bool) → false ≡ (a && false)
and_false true = refl
and_false false = refl

pub and_true : (a : Bool) → a ≡ (a && true)
and_true true = refl
and_true false = refl

pub and_same : (a : Bool) → a ≡ (a && a)
and_same true = refl
and_same false = refl

pub and_not : (a : Bool) → false ≡ (a && not a)
and_not true = refl
and_not false = refl

pub not_and_same : (a : Bool) → false ≡ (not a && a)
not_and_same true = refl
not_and_same false = refl

pub or_true : (a : Bool) → true ≡ (a || true)
or_true true = refl
or_true false = refl

pub or_false : (a : Bool) → a ≡ (a || false)
or_false true = refl
or_false false = refl

pub or_same : (a : Bool) → a ≡ (a || a)
or_same true = refl
or_same false = refl

pub or_not : (a : Bool) → true ≡ (a || not a)
or_not true = refl
or_not false = refl

pub not_or_same : (a : Bool) → true ≡ (not a || a)
not_or_same true = refl
not_or_same false = refl

pub beq_same : (a : Bool) → true ≡ beq a a
beq_same true = refl
beq_same false = refl

pub beq_true : (a : Bool) → a ≡ beq a true
beq_true true = refl
beq_true false = refl

pub true_beq : (a : Bool) → a ≡ beq true a
true_beq true = refl
true_beq false = refl

pub beq_false : (a : Bool) → not a ≡ beq a false
beq_false true = refl
beq_false false = refl

pub false_beq : (a : Bool) → not a ≡ beq false a
false_beq true = refl
false_beq false = refl

pub list_all_true : {X : Type 0} (p : X → Bool) → ((x : X) → true ≡ p x) → (xs : List X) → true ≡ list_all p xs
list_all_true p each [] = refl
list_all_true p each (x ∷ xs) = λ i. each x i && list_all_true p each xs i

pub list_any_false : {X : Type 0} (p : X → Bool) → ((x : X) → false ≡ p x) → (xs : List X) → false ≡ list_any p xs
list_any_false p each [] = refl
list_any_false p each (x ∷ xs) = λ i. each x i || list_any_false p each xs i
