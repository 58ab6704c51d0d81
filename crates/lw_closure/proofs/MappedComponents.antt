-- Components with one kind of signed formulas put for another.
use Rattle.std.proofs.Common.{◌≡◌, ◌||◌, Option, Some, None, refl, ap}
use Rattle.std.specs.Option.{option_map, ForSome}
use Rattle.lw_formula.specs.declared.parts.Parts.{Parts}
use Rattle.lw_formula.specs.declared.parts.Parts.TheVariants.{Nothing, One, Two, Nu, Pi}
use Rattle.lw_proof.specs.Derivation.{is_one, is_two, is_nu, is_pi, is_modal_part}
use Rattle.lw_closure.specs.Mapping.{OfBoth, OfParts, map_both, map_parts}

pub OfBoth-imp : {I : Type 0} (P Q : I → Type 0) → ((i : I) → P i → Q i) → (p : I × Option I) → OfBoth P p → OfBoth Q p
OfBoth-imp P Q f (a, None) h = f a h
OfBoth-imp P Q f (a, Some b) h = (f a h.0, f b h.1)

-- what follows from what holds of each component holds of each component
pub OfParts-imp : {I : Type 0} (P Q : I → Type 0) → ((i : I) → P i → Q i) → (p : Parts I) → OfParts P p → OfParts Q p
OfParts-imp P Q f Nothing h = tt
OfParts-imp P Q f (One a b) h = OfBoth-imp P Q f (a, b) h
OfParts-imp P Q f (Two p q) h = (OfBoth-imp P Q f p h.0, OfBoth-imp P Q f q h.1)
OfParts-imp P Q f (Nu a) h = f a h
OfParts-imp P Q f (Pi a) h = f a h

both_same : {I J : Type 0} (f g : I → J) (p : I × Option I) → OfBoth (λ i. f i ≡ g i) p → map_both f p ≡ map_both g p
both_same f g (a, None) h = λ i. (h i, None)
both_same f g (a, Some b) h = λ i. (h.0 i, Some (h.1 i))

-- functions that agree on the components give the same
pub parts_same : {I J : Type 0} (f g : I → J) (p : Parts I) → OfParts (λ i. f i ≡ g i) p → map_parts f p ≡ map_parts g p
parts_same f g Nothing h = refl
parts_same f g (One a b) h = let e = both_same f g (a, b) h in λ i. One (e i).0 (e i).1
parts_same f g (Two p q) h = λ i. Two (both_same f g p h.0 i) (both_same f g q h.1 i)
parts_same f g (Nu a) h = ap Nu h
parts_same f g (Pi a) h = ap Pi h

pub option_same : {I J : Type 0} (f g : I → J) (o : Option I) → ForSome o (λ i. f i ≡ g i) → option_map f o ≡ option_map g o
option_same f g None h = refl
option_same f g (Some a) h = ap Some (h a refl)

-- what holds of the components that came of a map holds of each that it took
OfBoth-map : {I J : Type 0} (f : I → J) (P : J → Type 0) (p : I × Option I) → OfBoth P (map_both f p) → OfBoth (λ i. P (f i)) p
OfBoth-map f P (a, None) h = h
OfBoth-map f P (a, Some b) h = h

pub OfParts-map : {I J : Type 0} (f : I → J) (P : J → Type 0) (p : Parts I) → OfParts P (map_parts f p) → OfParts (λ i. P (f i)) p
OfParts-map f P Nothing h = tt
OfParts-map f P (One a b) h = OfBoth-map f P (a, b) h
OfParts-map f P (Two p q) h = (OfBoth-map f P p h.0, OfBoth-map f P q h.1)
OfParts-map f P (Nu a) h = h
OfParts-map f P (Pi a) h = h

-- what a map of components leaves as it is
pub is_one-map : {I J : Type 0} (f : I → J) (p : Parts I) → is_one (map_parts f p) ≡ is_one p
is_one-map f (One a b) = refl
is_one-map f _ = refl

pub is_two-map : {I J : Type 0} (f : I → J) (p : Parts I) → is_two (map_parts f p) ≡ is_two p
is_two-map f (Two p q) = refl
is_two-map f _ = refl

pub is_nu-map : {I J : Type 0} (f : I → J) (p : Parts I) → is_nu (map_parts f p) ≡ is_nu p
is_nu-map f (Nu a) = refl
is_nu-map f _ = refl

pub is_pi-map : {I J : Type 0} (f : I → J) (p : Parts I) → is_pi (map_parts f p) ≡ is_pi p
is_pi-map f (Pi a) = refl
is_pi-map f _ = refl

pub is_modal-map : {I J : Type 0} (f : I → J) (p : Parts I) → is_modal_part (map_parts f p) ≡ is_modal_part p
is_modal-map f p = λ i. is_nu-map f p i || is_pi-map f p i

-- what is a ν, or a π, after a map of components was one before, with a component that is mapped to this one
pub nu_before : {I J : Type 0} (f : I → J) (p : Parts I) (c : J) → map_parts f p ≡ Nu c → (i : I) × (p ≡ Nu i) × (f i ≡ c)
nu_before f (Nu i) c e = (i, refl, cc)
nu_before f _ c e = cc

pub pi_before : {I J : Type 0} (f : I → J) (p : Parts I) (c : J) → map_parts f p ≡ Pi c → (i : I) × (p ≡ Pi i) × (f i ≡ c)
pi_before f (Pi i) c e = (i, refl, cc)
pi_before f _ c e = cc
