-- What an expression comes to, and how one evaluation follows on another.
use Rattle.std.specs.Prelude.{◌≡◌, true, false, Option, Some, None}
use Rattle.lw_formula.specs.Formula.{Formula}
use Rattle.lw_value.specs.Values.{Val, truth}
use Rattle.lw_eval.specs.declared.trouble.Trouble.{Trouble}

-- a value, or the trouble that ends the run
pub data Evaluation (A : Type 0) : Type 0 where
  Got : A → Evaluation A
  Fails : Trouble → Evaluation A

-- what there is, else this trouble
abbrev pub found_or : {A : Type 0} → Trouble → Option A → Evaluation A
found_or t (Some v) = Got v
found_or t None = Fails t

-- it comes to this alone
abbrev pub Is : {A : Type 0} → Evaluation A → Evaluation A → Type 0
Is e r = r ≡ e

-- where there is a value, what is said of it; a trouble stays
abbrev pub Given : {A B : Type 0} → Evaluation A → (A → Evaluation B → Type 0) → Evaluation B → Type 0
Given (Got v) second r = second v r
Given (Fails t) second r = r ≡ Fails t

-- first the one, and then, of its value, the other; a trouble of the first is that of the whole
pub data Bind {A B : Type 0} (first : Evaluation A → Type 0) (second : A → Evaluation B → Type 0) : Evaluation B → Type 0 where
  fails : {t : Trouble} → first (Fails t) → Bind first second (Fails t)
  goes : {r : Evaluation B} (v : A) → first (Got v) → second v r → Bind first second r

-- both values, the left one first
abbrev pub Pair : {A B : Type 0} → (Evaluation A → Type 0) → (Evaluation B → Type 0) → Evaluation (A × B) → Type 0
Pair left right = Bind left (λ x. Bind right (λ y. Is (Got (x, y))))

-- yes where the statement holds, no where it doesn't
pub data Tells (P : Type 0) : Evaluation (Val Formula) → Type 0 where
  holds : P → Tells P (Got (truth true))
  fails_to : ¬ P → Tells P (Got (truth false))
