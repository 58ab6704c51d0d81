-- The entries of a map of variables as names with the values that they stand for.
use Rattle.std.proofs.Common.{◌≡◌, ◌≢◌, ℕ, Bool, true, false, List, [], ◌∷◌, Option, None, Some, map, AllPairs, refl, sym, ap, subst, if◌then◌else◌, Bor}
use Rattle.std.specs.Prelude.{option_copied}
use Rattle.std.specs.List.{IsDistinct}
use Rattle.std.specs.Str.{bytes_eq}
use Rattle.std.proofs.lemmas.Map.Made.{AllPairs-from_IsDistinct}
use Rattle.std.proofs.lemmas.Slice.Eq.{bytes_eq-Decides}
use Rattle.std.specs.Map.{lookup}
use Rattle.indexmap.specs.IndexMap.{insert_entry}
use Rattle.lw_value.specs.declared.value.Value.{Value}
use Rattle.lw_value.specs.Assignments.{value_at, put, HaveOwnNames}
use Rattle.lw_value.specs.Views.{value_of, assigned, value_under}

-- the value that is found stands for that of the name
abbrev seen_value : Option Value → Option (Rattle.lw_value.specs.Values.Val Rattle.lw_pool.specs.declared.id.FormId.FormId)
seen_value None = None
seen_value (Some v) = Some (value_of v)

pub lookup-assigned : (es : List (List ℕ × Value)) (x : List ℕ) → seen_value (lookup (bytes_eq x) es) ≡ value_at (map assigned es) x
lookup-assigned [] x = refl
lookup-assigned (e ∷ es) x = by (bytes_eq x e.0) (lookup-assigned es x)
  where
    by : (b : Bool) → seen_value (lookup (bytes_eq x) es) ≡ value_at (map assigned es) x
        → seen_value (if b then Some e.1 else lookup (bytes_eq x) es) ≡ (if b then Some (value_of e.1) else value_at (map assigned es) x)
    by true rest = refl
    by false rest = rest

pub under-copied : (r : Option (Bor Value)) → value_under r ≡ seen_value (option_copied r)
under-copied None = refl
under-copied (Some v) = refl

pub put-assigned : (es : List (List ℕ × Value)) (x : List ℕ) (v : Value) → map assigned (insert_entry bytes_eq es x v) ≡ put (map assigned es) x (value_of v)
put-assigned [] x v = refl
put-assigned (e ∷ es) x v = by (bytes_eq x e.0) (put-assigned es x v)
  where
    by : (b : Bool) → map assigned (insert_entry bytes_eq es x v) ≡ put (map assigned es) x (value_of v)
        → map assigned (if b then (e.0, v) ∷ es else e ∷ insert_entry bytes_eq es x v) ≡ (if b then (e.0, value_of v) ∷ map assigned es else assigned e ∷ put (map assigned es) x (value_of v))
    by true rest = refl
    by false rest = ap (λ ps. assigned e ∷ ps) rest

names-assigned : (es : List (List ℕ × Value)) → map (λ p. p.0) (map assigned es) ≡ map (λ e. e.0) es
names-assigned [] = refl
names-assigned (e ∷ es) = ap (λ xs. e.0 ∷ xs) (names-assigned es)

pub own_names : (es : List (List ℕ × Value)) → IsDistinct bytes_eq (map (λ e. e.0) es) → HaveOwnNames (map assigned es)
own_names es unique = subst (AllPairs (λ x y. x ≢ y)) (sym (names-assigned es)) (AllPairs-from_IsDistinct bytes_eq-Decides (map (λ e. e.0) es) unique)
