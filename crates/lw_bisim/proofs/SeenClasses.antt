-- The classes of some worlds, in order and each once.
use Rattle.std.proofs.Common.{◌≡◌, ℕ, ◌<◌, List, length, get_or, map, ◌↔◌, sym, ap, subst, ◌∙◌, arith}
use Rattle.std.specs.List.{Contains, dedup}
use Rattle.std.specs.List.Sorted.{IsPermutation}
use Rattle.std.proofs.Common.{eqb}
use Rattle.std.proofs.lemmas.List.{get_or-map, length-map}
use Rattle.std.proofs.lemmas.List.Elements.{Contains-get_or}
use Rattle.std.proofs.lemmas.List.Kept.{Contains-dedup_nat, Contains-from_dedup}
use Rattle.std.proofs.lemmas.List.Sorted.{Contains-permutation, IsPermutation-sym}
use Rattle.lw_bisim.specs.Quotient.{place_of}
use Rattle.lw_bisim.specs.Private.Classes.{HasClass}

Contains-map : (f : ℕ → ℕ) (xs : List ℕ) (y : ℕ) → Contains (map f xs) y ↔ ((x : ℕ) × Contains xs x × (f x ≡ y))
Contains-map f xs y = (
  λ h. let l : h.0 < length xs = omega (arith, h.1, length-map xs f) in (get_or xs h.0 0, Contains-get_or xs h.0 0 l, sym (get_or-map f xs h.0 0 y l) ∙ h.2),
  λ h. (h.1.0, omega (arith, h.1.1, length-map xs f), get_or-map f xs h.1.0 h.0 y h.1.1 ∙ ap f h.1.2 ∙ h.2),
)

pub seen_classes-exact : (places worlds found moved left : List ℕ) → found ≡ map (place_of places) worlds → IsPermutation found moved → left ≡ dedup eqb moved → (c : ℕ) → Contains left c ↔ HasClass places worlds c
seen_classes-exact places worlds found moved left e p d c = (
  λ h. (Contains-map (place_of places) worlds c).0
      (subst (λ xs. Contains xs c) e
      (Contains-permutation moved found c (IsPermutation-sym found moved p)
      (Contains-from_dedup eqb moved c (subst (λ xs. Contains xs c) d h)))),
  λ h. subst (λ xs. Contains xs c) (sym d)
      (Contains-dedup_nat moved c
      (Contains-permutation found moved c p
      (subst (λ xs. Contains xs c) (sym e) ((Contains-map (place_of places) worlds c).1 h)))),
)
