-- What is said of ids in a pool stays true in a pool that has grown from it.
use Rattle.std.proofs.Common.{◌≡◌, List, [], ◌∷◌, length, map, Option, None, Some, refl, ap, arith}
use Rattle.std.proofs.lemmas.List.Elements.{All-head, All-tail, All-weaker}
use Rattle.lw_formula.specs.declared.parts.Parts.{Parts}
use Rattle.lw_formula.specs.declared.parts.Parts.TheVariants.{Nothing, One, Two, Nu, Pi}
use Rattle.lw_formula.specs.Formula.{Formula}
use Rattle.lw_pool.specs.declared.id.SignedId.{SignedId}
use Rattle.lw_pool.specs.declared.id.FormId.{FormId}
use Rattle.lw_pool.specs.Region.{IsLive, Grows, signed_at, both_at, parts_at, AreBothBelow, ArePartsBelow}
use Rattle.lw_proof.specs.Tree.{Tree, Forest, node, none, more, map_forest, EachPrincipal, EachOfAll}
use Rattle.lw_proof.specs.Pooled.{proof_at, IsProofLive}
use Rattle.lw_sets.specs.IdSets.{AreLive}

pub IsLive_grows : (now ts : List Formula) → Grows now ts → (a : FormId) → IsLive now a → IsLive ts a
IsLive_grows now ts g a l = omega (arith, g.longer, l)

pub signed_grows : (now ts : List Formula) → Grows now ts → (x : SignedId) → IsLive now x.form → signed_at ts x ≡ signed_at now x
signed_grows now ts g x l = λ i. (x.sign, g.same x.form l i)

pub listed_grows : (now ts : List Formula) → Grows now ts → (xs : List SignedId) → AreLive now xs → map (signed_at ts) xs ≡ map (signed_at now) xs
listed_grows now ts g [] l = refl
listed_grows now ts g (x ∷ xs) l = λ i.
    signed_grows now ts g x (All-head (λ (y : SignedId). IsLive now y.form) x xs l) i
    ∷ listed_grows now ts g xs (All-tail (λ (y : SignedId). IsLive now y.form) x xs l) i

pub AreLive_grows : (now ts : List Formula) → Grows now ts → (xs : List SignedId) → AreLive now xs → AreLive ts xs
AreLive_grows now ts g xs l = All-weaker (λ (y : SignedId). IsLive now y.form) (λ (y : SignedId). IsLive ts y.form) (λ y h. IsLive_grows now ts g y.form h) xs l

both_grows : (now ts : List Formula) → Grows now ts → (p : SignedId × Option SignedId) → AreBothBelow (length now) p → both_at ts p ≡ both_at now p
both_grows now ts g (a, None) l = λ i. (signed_grows now ts g a l i, None)
both_grows now ts g (a, Some b) l = λ i. (signed_grows now ts g a l.0 i, Some (signed_grows now ts g b l.1 i))

pub AreBothBelow_grows : (now ts : List Formula) → Grows now ts → (p : SignedId × Option SignedId) → AreBothBelow (length now) p → AreBothBelow (length ts) p
AreBothBelow_grows now ts g (a, None) l = IsLive_grows now ts g a.form l
AreBothBelow_grows now ts g (a, Some b) l = (IsLive_grows now ts g a.form l.0, IsLive_grows now ts g b.form l.1)

pub parts_grow : (now ts : List Formula) → Grows now ts → (p : Parts SignedId) → ArePartsBelow (length now) p → parts_at ts p ≡ parts_at now p
parts_grow now ts g Nothing l = refl
parts_grow now ts g (One a b) l = λ i. One (both_grows now ts g (a, b) l i).0 (both_grows now ts g (a, b) l i).1
parts_grow now ts g (Two p q) l = λ i. Two (both_grows now ts g p l.0 i) (both_grows now ts g q l.1 i)
parts_grow now ts g (Nu a) l = ap Nu (signed_grows now ts g a l)
parts_grow now ts g (Pi a) l = ap Pi (signed_grows now ts g a l)

mutual
  -- what follows of each principal follows of a proof's
  pub EachPrincipal-weaker : {A : Type 0} (P Q : A → Type 0) → ((x : A) → P x → Q x) → (t : Tree A) → EachPrincipal P t → EachPrincipal Q t
  EachPrincipal-weaker P Q f (node r x ts) h = (f x h.0, EachOfAll-weaker P Q f ts h.1)

  EachOfAll-weaker : {A : Type 0} (P Q : A → Type 0) → ((x : A) → P x → Q x) → (ts : Forest A) → EachOfAll P ts → EachOfAll Q ts
  EachOfAll-weaker P Q f none h = tt
  EachOfAll-weaker P Q f (more t ts) h = (EachPrincipal-weaker P Q f t h.0, EachOfAll-weaker P Q f ts h.1)

pub IsProofLive_grows : (now ts : List Formula) → Grows now ts → (P : Tree SignedId) → IsProofLive now P → IsProofLive ts P
IsProofLive_grows now ts g P l = EachPrincipal-weaker (λ (s : SignedId). IsLive now s.form) (λ (s : SignedId). IsLive ts s.form) (λ s h. IsLive_grows now ts g s.form h) P l

mutual
  pub proof_grows : (now ts : List Formula) → Grows now ts → (P : Tree SignedId) → IsProofLive now P → proof_at ts P ≡ proof_at now P
  proof_grows now ts g (node r x us) l = λ i. node r (signed_grows now ts g x l.0 i) (forest_grows now ts g us l.1 i)

  forest_grows : (now ts : List Formula) → Grows now ts → (us : Forest SignedId) → EachOfAll (λ (s : SignedId). IsLive now s.form) us → map_forest (signed_at ts) us ≡ map_forest (signed_at now) us
  forest_grows now ts g none l = refl
  forest_grows now ts g (more u us) l = λ i. more (proof_grows now ts g u l.0 i) (forest_grows now ts g us l.1 i)
