-- Components, with one kind of signed formulas put for another.
use Rattle.std.specs.Prelude.{Option, Some, None, ⊤}
use Rattle.std.specs.Option.{option_map}
use Rattle.lw_formula.specs.declared.parts.Parts.{Parts}
use Rattle.lw_formula.specs.declared.parts.Parts.TheVariants.{Nothing, One, Two, Nu, Pi}

-- P holds of the first, and of the second where there is one
abbrev pub OfBoth : {I : Type 0} → (I → Type 0) → I × Option I → Type 0
OfBoth P (a, None) = P a
OfBoth P (a, Some b) = P a × P b

-- P holds of each component
abbrev pub OfParts : {I : Type 0} → (I → Type 0) → Parts I → Type 0
OfParts P Nothing = ⊤
OfParts P (One a b) = OfBoth P (a, b)
OfParts P (Two p q) = OfBoth P p × OfBoth P q
OfParts P (Nu a) = P a
OfParts P (Pi a) = P a

-- a first and perhaps a second, with f of each in its place
abbrev pub map_both : {I J : Type 0} → (I → J) → I × Option I → J × Option J
map_both f p = (f p.0, option_map f p.1)

-- the components, with f of each in its place
abbrev pub map_parts : {I J : Type 0} → (I → J) → Parts I → Parts J
map_parts f Nothing = Nothing
map_parts f (One a b) = One (f a) (option_map f b)
map_parts f (Two p q) = Two (map_both f p) (map_both f q)
map_parts f (Nu a) = Nu (f a)
map_parts f (Pi a) = Pi (f a)
