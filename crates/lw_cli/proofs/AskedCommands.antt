-- Words ask for at most one command.
use Rattle.std.proofs.Common.{◌≡◌, ℕ, ◌≤◌, true, false, List, [], ◌∷◌, Result, Ok, Err, OnErr, codes, refl, sym, ◌∙◌, ap, arith}
use Rattle.std.specs.Str.{bytes_eq}
use Rattle.std.specs.Fmt.{decimal}
use Rattle.std.proofs.lemmas.Fmt.{decimal_injective}
use Rattle.lw_cli.specs.declared.asked.Command.{Command}
use Rattle.lw_cli.specs.declared.asked.Command.TheVariants.{Run, Check, Gen}
use Rattle.lw_cli.specs.Asked.{Ask}

-- the first word, and the one behind it
abbrev verb_of : List (List ℕ) → List ℕ
verb_of [] = []
verb_of (verb ∷ words) = verb

abbrev word_of : List (List ℕ) → List ℕ
word_of [] = []
word_of (verb ∷ []) = []
word_of (verb ∷ word ∷ words) = word

-- words that compare as different aren't the same
apart : (a b : List ℕ) → bytes_eq a a ≡ true → bytes_eq a b ≡ false → a ≡ b → ⊥
apart a b same other is = true_is_not_false (sym same ∙ ap (bytes_eq a) is ∙ other)
  where
    true_is_not_false : true ≡ false → ⊥
    true_is_not_false both = absurd (cc)

one_number : (m n : ℕ) → m ≤ 100 → n ≤ 100 → decimal m ≡ decimal n → m ≡ n
one_number m n first second is = decimal_injective m n (omega (arith, first)) (omega (arith, second)) is

pub one_command : (words : List (List ℕ)) (command other : Command) → Ask words command → Ask words other → command ≡ other
one_command words (Run file) (Run name) is are = ap Run (ap word_of (sym is ∙ are))
one_command words (Run file) (Check name) is are = absurd (apart (codes "run") (codes "check") refl refl (ap verb_of (sym is ∙ are)))
one_command words (Run file) (Gen n) is are = absurd (apart (codes "run") (codes "gen") refl refl (ap verb_of (sym is ∙ are.1)))
one_command words (Check file) (Run name) is are = absurd (apart (codes "check") (codes "run") refl refl (ap verb_of (sym is ∙ are)))
one_command words (Check file) (Check name) is are = ap Check (ap word_of (sym is ∙ are))
one_command words (Check file) (Gen n) is are = absurd (apart (codes "check") (codes "gen") refl refl (ap verb_of (sym is ∙ are.1)))
one_command words (Gen m) (Run name) is are = absurd (apart (codes "gen") (codes "run") refl refl (ap verb_of (sym is.1 ∙ are)))
one_command words (Gen m) (Check name) is are = absurd (apart (codes "gen") (codes "check") refl refl (ap verb_of (sym is.1 ∙ are)))
one_command words (Gen m) (Gen n) is are = ap Gen (one_number m n is.0.1 are.0.1 (ap word_of (sym is.1 ∙ are.1)))

-- an answer without a command still leaves the words one
pub asked_run : {X E : Type 0} (verb word : List ℕ) (r : Result X E) → verb ≡ codes "run" → OnErr r ((command : Command) × Ask (verb ∷ word ∷ []) command)
asked_run verb word (Ok x) is = tt
asked_run verb word (Err e) is = (Run word, ap (λ v. v ∷ word ∷ []) is)

pub asked_check : {X E : Type 0} (verb word : List ℕ) (r : Result X E) → verb ≡ codes "check" → OnErr r ((command : Command) × Ask (verb ∷ word ∷ []) command)
asked_check verb word (Ok x) is = tt
asked_check verb word (Err e) is = (Check word, ap (λ v. v ∷ word ∷ []) is)
