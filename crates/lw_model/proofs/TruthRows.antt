-- Rows of truth values: what the loops keep of them, and what they say at the end.
use Rattle.std.proofs.Common.{◌≡◌, ℕ, ◌+◌, ◌<◌, Bool, true, false, List, length, get_or, set, ◌↔◌, refl, sym, subst, ◌∙◌, ⊎_elim, arith, IsTrue}
use Rattle.std.specs.Bool.{Decides}
use Rattle.std.specs.List.{All, Contains}
use Rattle.std.proofs.lemmas.Bool.{cases_eq, false≢true}
use Rattle.std.proofs.lemmas.Bool.Decides.{Decides-like}
use Rattle.std.proofs.lemmas.List.{get_or_default, get_or-set_same, get_or-set_other}
use Rattle.std.proofs.lemmas.List.Elements.{All-contains}
use Rattle.lw_formula.specs.Formula.{Formula, letter, nec, poss}
use Rattle.lw_formula.specs.FiniteModel.{FiniteModel, IsWellFormed, Sees, HasFact}
use Rattle.lw_formula.specs.Truth.{IsTrueAt, true_at}
use Rattle.lw_formula.proofs.ListMembers.{All-members}
use Rattle.lw_formula.proofs.TruthTest.{true_at-IsTrueAt}
use Rattle.lw_model.specs.Private.TruthTable.{IsRow}

-- what holds at each place of a list holds of each member
pub each-Contains : (P : ℕ → Type 0) (ws : List ℕ) → ((k : ℕ) → k < length ws → P (get_or ws k 0)) → (w : ℕ) → Contains ws w → P w
each-Contains P ws each w h = subst P (get_or_default ws h.0 0 w h.1 ∙ h.2) (each h.0 h.1)

-- what holds of the values at the worlds below i, and of a further value, holds below i + 1 once that is put at i
pub set-below : (P : ℕ → Bool → Type 0) (row : List Bool) (i : ℕ) (b : Bool) → i < length row → ((w : ℕ) → w < i → P w (get_or row w false)) → P i b → (w : ℕ) → w < i + 1 → P w (get_or (set row i b) w false)
set-below P row i b l below here w k =
    ⊎_elim
    (λ e. subst (λ n. P n (get_or (set row i b) n false)) (sym e) (subst (P i) (sym (get_or-set_same row i b false l)) here))
    (λ apart. subst (P w) (sym (get_or-set_other row i w b false apart)) (below w (omega arith)))
    (cases_eq w i)

-- two tests of one fact agree
same_from_Decides : {P : Type 0} (b c : Bool) → Decides b P → Decides c P → b ≡ c
same_from_Decides true true p q = refl
same_from_Decides true false p q = absurd (false≢true (q.1 (p.0 refl)))
same_from_Decides false true p q = absurd (false≢true (p.1 (q.0 refl)))
same_from_Decides false false p q = refl

-- a row that tells the truth of a formula at each world is the formula's row
row-Decides : (m : FiniteModel) (a : Formula) (row : List Bool) → length row ≡ m.worlds → ((w : ℕ) → w < m.worlds → Decides (get_or row w false) (IsTrueAt m w a)) → IsRow m a row
row-Decides m a row long tells = record { long = long; exact = λ w k. same_from_Decides (get_or row w false) (true_at m w a) (tells w k) (true_at-IsTrueAt m w a) }

-- a world that is seen is one of the model's
seen : (m : FiniteModel) (w v : ℕ) → IsWellFormed m → Sees m w v → v < m.worlds
seen m w v ok sees = (All-contains (λ p. (p.0 < m.worlds) × (p.1 < m.worlds)) m.pairs (w, v) ok.pairs_within sees).1

-- the worlds that a world sees are among those of the model
pub seen-within : (m : FiniteModel) (w : ℕ) (ws : List ℕ) (n : ℕ) → IsWellFormed m → n ≡ m.worlds → ((v : ℕ) → Contains ws v ↔ Sees m w v) → All (λ v. v < n) ws
seen-within m w ws n ok long exact = All-members (λ v. v < n) ws (λ v h. let within : v < m.worlds = seen m w v ok ((exact v).0 h) in omega arith)

-- a row tells a formula's truth
tells : (m : FiniteModel) (a : Formula) (of : List Bool) (v : ℕ) → IsRow m a of → v < m.worlds → Decides (get_or of v false) (IsTrueAt m v a)
tells m a of v r l = subst (λ b. Decides b (IsTrueAt m v a)) (sym (r.exact v l)) (true_at-IsTrueAt m v a)

-- the rows of a letter, of `dia` and of `box`
pub IsRow-letter : (m : FiniteModel) (p : List ℕ) (row : List Bool) → length row ≡ m.worlds → ((w : ℕ) → w < m.worlds → Decides (get_or row w false) (HasFact m w p)) → IsRow m (letter p) row
IsRow-letter m p row long each = row-Decides m (letter p) row long each

pub IsRow-poss : (m : FiniteModel) (a : Formula) (of row : List Bool) → IsWellFormed m → length row ≡ m.worlds → ((w : ℕ) → w < m.worlds → Decides (get_or row w false) ((v : ℕ) × Sees m w v × IsTrue (get_or of v false))) → IsRow m a of → IsRow m (poss a) row
IsRow-poss m a of row ok long each r =
    row-Decides m (poss a) row long
    (λ w k. Decides-like (get_or row w false)
    (λ some. (some.0, some.1, (tells m a of some.0 r (seen m w some.0 ok some.1)).0 some.2))
    (λ some. (some.0, some.1, (tells m a of some.0 r (seen m w some.0 ok some.1)).1 some.2))
    (each w k))

pub IsRow-nec : (m : FiniteModel) (a : Formula) (of row : List Bool) → IsWellFormed m → length row ≡ m.worlds → ((w : ℕ) → w < m.worlds → Decides (get_or row w false) ((v : ℕ) → Sees m w v → IsTrue (get_or of v false))) → IsRow m a of → IsRow m (nec a) row
IsRow-nec m a of row ok long each r =
    row-Decides m (nec a) row long
    (λ w k. Decides-like (get_or row w false)
    (λ all v s. (tells m a of v r (seen m w v ok s)).0 (all v s))
    (λ all v s. (tells m a of v r (seen m w v ok s)).1 (all v s))
    (each w k))
