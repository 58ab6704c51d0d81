-- What tests of a whole list decide of its members.
use Rattle.std.proofs.Common.{◌≡◌, ℕ, ◌<◌, Bool, true, false, not, ◌&&◌, ◌||◌, List, [], ◌∷◌, length, get_or, ◌⊎◌, ◌↔◌, inl, inr, refl, ap, ◌∙◌, subst, sym, arith}
use Rattle.std.proofs.lemmas.Bool.{false≢true}
use Rattle.std.specs.Bool.{Decides, beq}
use Rattle.std.specs.List.{Contains, HoldsAt, list_all, list_any}
use Rattle.std.proofs.lemmas.Bool.Decides.{Decides-and, Decides-by_and, Decides-by_or, Decides-like}
use Rattle.std.proofs.lemmas.List.{get_or_default}
use Rattle.std.proofs.lemmas.List.Elements.{All-contains, Contains-get_or}

-- where something holds at a place, it holds of a member
pub member_at : {X : Type 0} (P : X → Type 0) (xs : List X) (k : ℕ) → k < length xs → HoldsAt P xs k → (x : X) × Contains xs x × P x
member_at P [] k l h = let bad : ⊥ = omega arith in absurd bad
member_at P (y ∷ ys) k l h = (get_or (y ∷ ys) k y, Contains-get_or (y ∷ ys) k y l, h y)

-- what holds of a member holds at its place
pub at_member : {X : Type 0} (P : X → Type 0) (xs : List X) (x : X) → Contains xs x → P x → (k : ℕ) × (k < length xs) × HoldsAt P xs k
at_member P xs x h p = (h.0, h.1, λ d. subst P (sym (get_or_default xs h.0 d x h.1 ∙ h.2)) p)

-- a test of each member
pub list_all-Decides : {X : Type 0} (f : X → Bool) (P : X → Type 0) → ((x : X) → Decides (f x) (P x)) → (xs : List X) → Decides (list_all f xs) ((x : X) → Contains xs x → P x)
list_all-Decides f P each xs =
    Decides-like (list_all f xs)
    (λ all x h. All-contains P xs x all h)
    (λ all k d l. all (get_or xs k d) (Contains-get_or xs k d l))
    (Decides-by_and f P (list_all f) each refl (λ _ _. refl) xs)

-- a test of some member
pub list_any-Decides : {X : Type 0} (f : X → Bool) (P : X → Type 0) → ((x : X) → Decides (f x) (P x)) → (xs : List X) → Decides (list_any f xs) ((x : X) × Contains xs x × P x)
list_any-Decides f P each xs =
    Decides-like (list_any f xs)
    (λ some. member_at P xs some.0 some.1 some.2)
    (λ some. at_member P xs some.0 some.1 some.2)
    (Decides-by_or f P (list_any f) each refl (λ _ _. refl) xs)

-- a premise and a conclusion that are both tested
pub Decides-implies : {P Q : Type 0} (x y : Bool) → Decides x P → Decides y Q → Decides (not x || y) (P → Q)
Decides-implies true y p q = (λ e a. q.0 e, λ f. q.1 (f (p.0 refl)))
Decides-implies false y p q = (λ e a. absurd (false≢true (p.1 a)), λ f. refl)

-- two facts that are both tested
pub Decides-iff : {P Q : Type 0} (x y : Bool) → Decides x P → Decides y Q → Decides (beq x y) (P ↔ Q)
Decides-iff true true p q = (λ e. (λ a. q.0 refl, λ b. p.0 refl), λ h. refl)
Decides-iff true false p q = (λ e. absurd (false≢true e), λ h. absurd (false≢true (q.1 (h.0 (p.0 refl)))))
Decides-iff false true p q = (λ e. absurd (false≢true e), λ h. absurd (false≢true (p.1 (h.1 (q.0 refl)))))
Decides-iff false false p q = (λ e. (λ a. absurd (false≢true (p.1 a)), λ b. absurd (false≢true (q.1 b))), λ h. refl)

-- what is decided holds or fails
pub Decides-either : {P : Type 0} (x : Bool) → Decides x P → P ⊎ (¬ P)
Decides-either true p = inl (p.0 refl)
Decides-either false p = inr (λ a. false≢true (p.1 a))

-- two tested pairs are equal where their parts are
pub Decides-pair : {X Y : Type 0} (a b : X × Y) (x y : Bool) → Decides x (a.0 ≡ b.0) → Decides y (a.1 ≡ b.1) → Decides (x && y) (a ≡ b)
Decides-pair a b x y p q =
    Decides-like (x && y)
    (λ h. λ i. (h.0 i, h.1 i))
    (λ e. (ap (λ c. c.0) e, ap (λ c. c.1) e))
    (Decides-and x y p q)

-- whether a list has a member, by a test of equality
pub list_any-Contains : {X : Type 0} (f : X → Bool) (x : X) → ((y : X) → Decides (f y) (y ≡ x)) → (xs : List X) → Decides (list_any f xs) (Contains xs x)
list_any-Contains f x each xs =
    Decides-like (list_any f xs)
    (λ some. subst (Contains xs) some.2 some.1)
    (λ h. (x, h, refl))
    (list_any-Decides f (λ y. y ≡ x) each xs)
