-- What is found and put among variables: the same value with its formulas, live, and with its evidence.
use Rattle.std.proofs.Common.{◌≡◌, ℕ, Bool, true, false, List, [], ◌∷◌, None, Some, if◌then◌else◌, refl, ap, ◌∙◌, subst}
use Rattle.std.specs.Prelude.{option_map, IfSome}
use Rattle.std.specs.Str.{bytes_eq}
use Rattle.lw_formula.specs.Formula.{Formula}
use Rattle.lw_pool.specs.declared.id.FormId.{FormId}
use Rattle.lw_value.specs.Values.{Val, seen, AreLive}
use Rattle.lw_value.specs.Assignments.{value_at, put, variables_seen, AreVariablesLive}
use Rattle.lw_value.specs.Evidence.{HasEvidence, HaveEvidence}

-- the value of a name, with its formulas
pub value_at_seen : (ts : List Formula) (ps : List (List ℕ × Val FormId)) (x : List ℕ) → value_at (variables_seen ts ps) x ≡ option_map (seen ts) (value_at ps x)
value_at_seen ts [] x = refl
value_at_seen ts (p ∷ ps) x = by (bytes_eq x p.0) (value_at_seen ts ps x)
  where
    by : (b : Bool) → value_at (variables_seen ts ps) x ≡ option_map (seen ts) (value_at ps x)
        → (if b then Some (seen ts p.1) else value_at (variables_seen ts ps) x) ≡ option_map (seen ts) (if b then Some p.1 else value_at ps x)
    by true rest = refl
    by false rest = rest

pub value_at_found : (ts : List Formula) (ps : List (List ℕ × Val FormId)) (x : List ℕ) (v : Val FormId) → value_at ps x ≡ Some v → value_at (variables_seen ts ps) x ≡ Some (seen ts v)
value_at_found ts ps x v found = value_at_seen ts ps x ∙ ap (option_map (seen ts)) found

pub value_at_unbound : (ts : List Formula) (ps : List (List ℕ × Val FormId)) (x : List ℕ) → value_at ps x ≡ None → value_at (variables_seen ts ps) x ≡ None
value_at_unbound ts ps x none = value_at_seen ts ps x ∙ ap (option_map (seen ts)) none

found-live : (ts : List Formula) (ps : List (List ℕ × Val FormId)) (x : List ℕ) → AreVariablesLive ts ps → IfSome (value_at ps x) (AreLive ts)
found-live ts [] x live = tt
found-live ts (p ∷ ps) x live = by (bytes_eq x p.0) (found-live ts ps x live.1)
  where
    by : (b : Bool) → IfSome (value_at ps x) (AreLive ts) → IfSome (if b then Some p.1 else value_at ps x) (AreLive ts)
    by true rest = live.0
    by false rest = rest

-- the pool has the ids of the value that is found
pub value_at_live : (ts : List Formula) (ps : List (List ℕ × Val FormId)) (x : List ℕ) (v : Val FormId) → AreVariablesLive ts ps → value_at ps x ≡ Some v → AreLive ts v
value_at_live ts ps x v live found = subst (λ o. IfSome o (AreLive ts)) found (found-live ts ps x live)

found-evidence : (ps : List (List ℕ × Val Formula)) (x : List ℕ) → HaveEvidence ps → IfSome (value_at ps x) HasEvidence
found-evidence [] x have = tt
found-evidence (p ∷ ps) x have = by (bytes_eq x p.0) (found-evidence ps x have.1)
  where
    by : (b : Bool) → IfSome (value_at ps x) HasEvidence → IfSome (if b then Some p.1 else value_at ps x) HasEvidence
    by true rest = have.0
    by false rest = rest

-- the value that is found has evidence
pub value_at_evidence : (ps : List (List ℕ × Val Formula)) (x : List ℕ) (v : Val Formula) → HaveEvidence ps → value_at ps x ≡ Some v → HasEvidence v
value_at_evidence ps x v have found = subst (λ o. IfSome o HasEvidence) found (found-evidence ps x have)

-- the same of the value of a name among variables that are seen
pub found_has_evidence : (ts : List Formula) (ps : List (List ℕ × Val FormId)) (x : List ℕ) (v : Val FormId) → HaveEvidence (variables_seen ts ps) → value_at ps x ≡ Some v → HasEvidence (seen ts v)
found_has_evidence ts ps x v have found = value_at_evidence (variables_seen ts ps) x (seen ts v) have (value_at_found ts ps x v found)

-- the variables after an assignment, with their formulas
pub put_seen : (ts : List Formula) (ps : List (List ℕ × Val FormId)) (x : List ℕ) (v : Val FormId) → variables_seen ts (put ps x v) ≡ put (variables_seen ts ps) x (seen ts v)
put_seen ts [] x v = refl
put_seen ts (p ∷ ps) x v = by (bytes_eq x p.0) (put_seen ts ps x v)
  where
    by : (b : Bool) → variables_seen ts (put ps x v) ≡ put (variables_seen ts ps) x (seen ts v)
        → variables_seen ts (if b then (p.0, v) ∷ ps else p ∷ put ps x v)
        ≡ (if b then (p.0, seen ts v) ∷ variables_seen ts ps else (p.0, seen ts p.1) ∷ put (variables_seen ts ps) x (seen ts v))
    by true rest = refl
    by false rest = ap (λ qs. (p.0, seen ts p.1) ∷ qs) rest

pub put_live : (ts : List Formula) (ps : List (List ℕ × Val FormId)) (x : List ℕ) (v : Val FormId) → AreVariablesLive ts ps → AreLive ts v → AreVariablesLive ts (put ps x v)
put_live ts [] x v live new = (new, tt)
put_live ts (p ∷ ps) x v live new = by (bytes_eq x p.0) (put_live ts ps x v live.1 new)
  where
    by : (b : Bool) → AreVariablesLive ts (put ps x v) → AreVariablesLive ts (if b then (p.0, v) ∷ ps else p ∷ put ps x v)
    by true rest = (new, live.1)
    by false rest = (live.0, rest)

pub put_evidence : (ps : List (List ℕ × Val Formula)) (x : List ℕ) (v : Val Formula) → HaveEvidence ps → HasEvidence v → HaveEvidence (put ps x v)
put_evidence [] x v have new = (new, tt)
put_evidence (p ∷ ps) x v have new = by (bytes_eq x p.0) (put_evidence ps x v have.1 new)
  where
    by : (b : Bool) → HaveEvidence (put ps x v) → HaveEvidence (if b then (p.0, v) ∷ ps else p ∷ put ps x v)
    by true rest = (new, have.1)
    by false rest = (have.0, rest)
