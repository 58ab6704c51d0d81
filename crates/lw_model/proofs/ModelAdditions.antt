-- What holds of a model to which a pair or a fact is added.
use Rattle.std.proofs.Common.{◌≡◌, ℕ, ◌<◌, List, ◌⊎◌, ◌↔◌, ⊎_elim, refl, subst, sym, Result, Ok, Err, OnOk, OnErr}
use Rattle.std.specs.List.{Contains}
use Rattle.std.proofs.lemmas.List.Elements.{All-contains}
use Rattle.lw_formula.specs.FiniteModel.{FiniteModel, IsWellFormed, AreDistinct}
use Rattle.lw_model.specs.Edits.{AddsPair, AddsFact}
use Rattle.lw_formula.proofs.ListMembers.{All-members}

-- what holds holds where a call fails
pub OnErr-always : {T E P : Type 0} (r : Result T E) → P → OnErr r P
OnErr-always (Ok x) p = tt
OnErr-always (Err e) p = p

-- a pair within the worlds is added, or the pairs stay
pub IsWellFormed-pairs : {A E : Type 0} (m : FiniteModel) (v w : ℕ) (new : List (ℕ × ℕ)) (r : Result A E) → IsWellFormed m → v < m.worlds → w < m.worlds →
    OnOk r ((a x : ℕ) → Contains new (a, x) ↔ (Contains m.pairs (a, x) ⊎ ((v ≡ a) × (w ≡ x)))) → OnOk r (AreDistinct new) → OnErr r (new ≡ m.pairs) → IsWellFormed (record m { pairs = new })
IsWellFormed-pairs m v w new (Ok x) h from to added distinct failed = record {
  inhabited = h.inhabited;
  pairs_within = All-members (λ p. (p.0 < m.worlds) × (p.1 < m.worlds)) new
      (λ p k. ⊎_elim
      (λ old. All-contains (λ q. (q.0 < m.worlds) × (q.1 < m.worlds)) m.pairs p h.pairs_within old)
      (λ e. (subst (λ n. n < m.worlds) e.0 from, subst (λ n. n < m.worlds) e.1 to))
      ((added p.0 p.1).0 k));
  pairs_distinct = distinct;
  facts_within = h.facts_within;
  facts_distinct = h.facts_distinct;
}
IsWellFormed-pairs m v w new (Err e) h from to added distinct failed = subst (λ pairs. IsWellFormed (record m { pairs = pairs })) (sym failed) h

-- a fact at one of the worlds is added, or the facts stay
pub IsWellFormed-facts : {A E : Type 0} (m : FiniteModel) (w : ℕ) (p : List ℕ) (new : List (ℕ × List ℕ)) (r : Result A E) → IsWellFormed m → w < m.worlds →
    OnOk r ((v : ℕ) (q : List ℕ) → Contains new (v, q) ↔ (Contains m.facts (v, q) ⊎ ((w ≡ v) × (p ≡ q)))) → OnOk r (AreDistinct new) → OnErr r (new ≡ m.facts) → IsWellFormed (record m { facts = new })
IsWellFormed-facts m w p new (Ok x) h at added distinct failed = record {
  inhabited = h.inhabited;
  pairs_within = h.pairs_within;
  pairs_distinct = h.pairs_distinct;
  facts_within = All-members (λ f. f.0 < m.worlds) new
      (λ f k. ⊎_elim
      (λ old. All-contains (λ g. g.0 < m.worlds) m.facts f h.facts_within old)
      (λ e. subst (λ n. n < m.worlds) e.0 at)
      ((added f.0 f.1).0 k));
  facts_distinct = distinct;
}
IsWellFormed-facts m w p new (Err e) h at added distinct failed = subst (λ facts. IsWellFormed (record m { facts = facts })) (sym failed) h

-- what the model then is
pub AddsPair-pairs : {A E : Type 0} (m : FiniteModel) (v w : ℕ) (new : List (ℕ × ℕ)) (r : Result A E) → OnOk r ((a x : ℕ) → Contains new (a, x) ↔ (Contains m.pairs (a, x) ⊎ ((v ≡ a) × (w ≡ x)))) → OnOk r (AddsPair m v w (record m { pairs = new }))
AddsPair-pairs m v w new (Ok x) added = record { worlds = refl; facts = refl; relation = added }
AddsPair-pairs m v w new (Err e) added = tt

pub AddsFact-facts : {A E : Type 0} (m : FiniteModel) (w : ℕ) (p : List ℕ) (new : List (ℕ × List ℕ)) (r : Result A E) → OnOk r ((v : ℕ) (q : List ℕ) → Contains new (v, q) ↔ (Contains m.facts (v, q) ⊎ ((w ≡ v) × (p ≡ q)))) → OnOk r (AddsFact m w p (record m { facts = new }))
AddsFact-facts m w p new (Ok x) added = record { worlds = refl; pairs = refl; relation = added }
AddsFact-facts m w p new (Err e) added = tt
