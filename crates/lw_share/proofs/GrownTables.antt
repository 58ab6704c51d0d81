-- Lines behind those of a table: what stood in the table and what held in it stays, and which sets it has then.
use Rattle.std.proofs.Common.{◌≡◌, ℕ, ◌+◌, suc, zero, true, List, [], ◌∷◌, ◌++◌, length, ◌↔◌, inl, inr, ◌⊎◌, ⊎_elim, Some, refl, sym, ap, subst, ◌∙◌, arith, append_assoc, length-append}
use Rattle.std.specs.List.{AllZip, Contains, slice_get}
use Rattle.std.specs.Option.{option_map}
use Rattle.std.proofs.lemmas.Option.{none-some, slice_get-map, slice_get_within, get_or_from_slice_get}
use Rattle.std.proofs.lemmas.List.{append-nil, map-append}
use Rattle.std.proofs.lemmas.List.Elements.{All-weaker, All-push, Contains-append_left, Contains-append_right, Contains-append_cases, Contains-push_cases}
use Rattle.lw_formula.specs.declared.logic.Logic.{Logic}
use Rattle.lw_formula.specs.FiniteModel.{AreDistinct}
use Rattle.lw_formula.specs.Formula.{Formula}
use Rattle.lw_formula.specs.Signed.{Signed, SignedSet}
use Rattle.lw_formula.specs.Components.{parts_of}
use Rattle.lw_formula.proofs.ListMembers.{Contains-nil, AreDistinct-push}
use Rattle.lw_proof.specs.System.{trees}
use Rattle.lw_proof.specs.Derivation.{premises}
use Rattle.lw_share.specs.Lines.{Line, IsLineAt}
use Rattle.lw_share.specs.SharedProofs.{set_in, line_sets, IsLineWithin, Holds}
use Rattle.lw_share.specs.Private.SharedSteps.{IsLineOf, AddsSets}

-- a line keeps its number
line_kept : {A : Type 0} (table more : List (Line A)) (i : ℕ) (line : Line A) → IsLineAt table i line → IsLineAt (table ++ more) i line
line_kept [] more i line at = absurd (none-some line at)
line_kept (l ∷ ls) more zero line at = at
line_kept (l ∷ ls) more (suc i) line at = line_kept ls more i line at

-- a line behind has the next number
pub line_behind : {A : Type 0} (table : List (Line A)) (line : Line A) → IsLineAt (table ++ line ∷ []) (length table) line
line_behind [] line = refl
line_behind (l ∷ ls) line = line_behind ls line

pub zip_weaker : {A B : Type 0} (R S : A → B → Type 0) → ((x : A) (y : B) → R x y → S x y) → (xs : List A) (ys : List B) →
    AllZip R xs ys → AllZip S xs ys
zip_weaker R S f [] [] z = tt
zip_weaker R S f [] (y ∷ ys) z = absurd z
zip_weaker R S f (x ∷ xs) [] z = absurd z
zip_weaker R S f (x ∷ xs) (y ∷ ys) z = (f x y z.0, zip_weaker R S f xs ys z.1)

pub line_of_kept : (table more : List (Line Signed)) (i : ℕ) (X : SignedSet) → IsLineOf table i X → IsLineOf (table ++ more) i X
line_of_kept table more i X h = (h.0, line_kept table more i h.0 h.1, h.2)

-- a line that has the set has one within it
pub line_of_within : (table : List (Line Signed)) (i : ℕ) (X : SignedSet) → IsLineOf table i X → IsLineWithin table i X
line_of_within table i X h = (h.0, h.1, λ s e. subst (λ (Y : SignedSet). Y s ≡ true) h.2 e)

-- the set of a line is among those of the table
line_of_set : (table : List (Line Signed)) (i : ℕ) (X : SignedSet) → IsLineOf table i X → Contains (line_sets table) X
line_of_set table i X h =
    let at : slice_get (line_sets table) i ≡ Some X = slice_get-map set_in table i ∙ ap (option_map set_in) h.1 ∙ ap Some h.2 in
    (i, slice_get_within (line_sets table) i X at, get_or_from_slice_get (line_sets table) i X X at)

module _ (L : Logic) (goal : Formula) where
  -- a line that holds still does
  holds_kept : (table more : List (Line Signed)) (line : Line Signed) → Holds L goal table line → Holds L goal (table ++ more) line
  holds_kept table more line h = (
    h.0,
    zip_weaker (IsLineWithin table) (IsLineWithin (table ++ more)) (λ i X w. (w.0, line_kept table more i w.0 w.1, w.2)) line.cites
        (premises trees L line.rule line.principal (parts_of line.principal) (set_in line)) h.1,
  )

  -- no line for no set
  pub none_added : (table : List (Line Signed)) → AddsSets L goal table table [] 0
  none_added table = record {
    further = [];
    grown = sym (append-nil table);
    holds = λ h. h;
    sets = λ Y. (λ h. inl h, λ h. ⊎_elim (λ l. l) (λ r. absurd (Contains-nil Y r)) h);
    distinct = λ h. h;
    few = omega arith;
  }

  -- the same sets in another order
  pub added_alike : (old new : List (Line Signed)) (Xs Ys : List SignedSet) (n : ℕ) → ((Y : SignedSet) → Contains Xs Y ↔ Contains Ys Y) →
      AddsSets L goal old new Xs n → AddsSets L goal old new Ys n
  added_alike old new Xs Ys n alike a = record {
    further = a.further;
    grown = a.grown;
    holds = a.holds;
    sets = λ Y. (
      λ h. ⊎_elim (λ o. inl o) (λ x. inr ((alike Y).0 x)) ((a.sets Y).0 h),
      λ h. (a.sets Y).1 (⊎_elim (λ o. inl o) (λ y. inr ((alike Y).1 y)) h),
    );
    distinct = a.distinct;
    few = a.few;
  }

  -- lines for sets, and then lines for more
  pub added_both : (old mid new : List (Line Signed)) (Xs Ys : List SignedSet) (m n : ℕ) →
      AddsSets L goal old mid Xs m → AddsSets L goal mid new Ys n → AddsSets L goal old new (Xs ++ Ys) (m + n)
  added_both old mid new Xs Ys m n a b = record {
    further = a.further ++ b.further;
    grown = b.grown ∙ ap (λ (table : List (Line Signed)). table ++ b.further) a.grown ∙ append_assoc old a.further b.further;
    holds = λ h. b.holds (a.holds h);
    sets = λ Y. (λ h. to Y ((b.sets Y).0 h), λ h. (b.sets Y).1 (from Y h));
    distinct = λ h. b.distinct (a.distinct h);
    few = omega (arith, a.few, b.few);
  }
    where
      to : (Y : SignedSet) → Contains (line_sets mid) Y ⊎ Contains Ys Y → Contains (line_sets old) Y ⊎ Contains (Xs ++ Ys) Y
      to Y (inl m) = ⊎_elim (λ o. inl o) (λ x. inr (Contains-append_left Xs Ys Y x)) ((a.sets Y).0 m)
      to Y (inr y) = inr (Contains-append_right Xs Ys Y y)

      from : (Y : SignedSet) → Contains (line_sets old) Y ⊎ Contains (Xs ++ Ys) Y → Contains (line_sets mid) Y ⊎ Contains Ys Y
      from Y (inl o) = inl ((a.sets Y).1 (inl o))
      from Y (inr h) = ⊎_elim (λ x. inl ((a.sets Y).1 (inr x))) (λ y. inr y) (Contains-append_cases Xs Ys Y h)

  -- no line for a set that is there
  pub known_added : (table : List (Line Signed)) (n : ℕ) (X : SignedSet) → IsLineOf table n X → AddsSets L goal table table (X ∷ []) 1
  known_added table n X at = record {
    further = [];
    grown = sym (append-nil table);
    holds = λ h. h;
    sets = λ Y. (λ h. inl h, λ h. ⊎_elim (λ l. l) (λ r. here Y (Contains-push_cases [] X Y r)) h);
    distinct = λ h. h;
    few = omega arith;
  }
    where
      here : (Y : SignedSet) → Contains [] Y ⊎ (X ≡ Y) → Contains (line_sets table) Y
      here Y (inl h) = absurd (Contains-nil Y h)
      here Y (inr e) = subst (Contains (line_sets table)) e (line_of_set table n X at)

  -- a line for a set that isn't
  pub behind_added : (table : List (Line Signed)) (line : Line Signed) (X : SignedSet) → set_in line ≡ X →
      Holds L goal (table ++ line ∷ []) line → ¬ Contains (line_sets table) X → AddsSets L goal table (table ++ line ∷ []) (X ∷ []) 1
  behind_added table line X e h new = record {
    further = line ∷ [];
    grown = refl;
    holds = λ all.
        All-push (Holds L goal (table ++ line ∷ [])) table line
        (All-weaker (Holds L goal table) (Holds L goal (table ++ line ∷ [])) (holds_kept table (line ∷ [])) table all) h;
    sets = λ Y. (
      λ c. Contains-append_cases (line_sets table) (X ∷ []) Y (subst (λ (Ys : List SignedSet). Contains Ys Y) split c),
      λ c. subst (λ (Ys : List SignedSet). Contains Ys Y) (sym split)
          (⊎_elim (λ o. Contains-append_left (line_sets table) (X ∷ []) Y o) (λ x. Contains-append_right (line_sets table) (X ∷ []) Y x) c),
    );
    distinct = λ d. subst AreDistinct (sym split) (AreDistinct-push (line_sets table) X d new);
    few = omega (arith, length-append table (line ∷ []));
  }
    where
      split : line_sets (table ++ line ∷ []) ≡ line_sets table ++ X ∷ []
      split = map-append set_in table (line ∷ []) ∙ ap (λ (Y : SignedSet). line_sets table ++ Y ∷ []) e
