-- Equality of values without certificates, kind by kind, and what a walk over two values has left of it.
use Rattle.std.specs.Prelude.{◌≡◌, Bool, true, false, List, [], ◌∷◌, map, ⊤}
use Rattle.std.proofs.Common.{Bor}
use Rattle.lw_pool.specs.declared.id.FormId.{FormId}
use Rattle.lw_value.specs.declared.value.Value.{Value}
use Rattle.lw_value.specs.Values.{Val, Vals, formula, truth, number, text, items, logic, certificate, naught, empty, item}
use Rattle.lw_value.specs.ValueTexts.{count_of}
use Rattle.lw_value.specs.Evidence.{HasNoCertificate}
use Rattle.lw_value.specs.Views.{value_of}

-- whether it is a certificate itself
abbrev pub is_certificate : {A : Type 0} → Val A → Bool
is_certificate (certificate l a e) = true
is_certificate _ = false

-- no certificate stands in any of the values
abbrev pub HaveNoCertificate : List (Val FormId) → Type 0
HaveNoCertificate [] = ⊤
HaveNoCertificate (v ∷ vs) = HasNoCertificate v × HaveNoCertificate vs

-- the values have one kind and are equal, lists item by item
abbrev mutual
  pub Alike : {A : Type 0} → Val A → Val A → Type 0
  Alike (formula a) (formula b) = a ≡ b
  Alike (truth a) (truth b) = a ≡ b
  Alike (number m) (number n) = m ≡ n
  Alike (text a) (text b) = a ≡ b
  Alike (items vs) (items ws) = AllAlike vs ws
  Alike (logic k) (logic l) = k ≡ l
  Alike naught naught = ⊤
  Alike _ _ = ⊥

  pub AllAlike : {A : Type 0} → Vals A → Vals A → Type 0
  AllAlike empty empty = ⊤
  AllAlike (item v vs) (item w ws) = Alike v w × AllAlike vs ws
  AllAlike _ _ = ⊥

-- the same but for the items of lists, of which there are as many
abbrev pub HaveLikeHeads : {A : Type 0} → Val A → Val A → Type 0
HaveLikeHeads (formula a) (formula b) = a ≡ b
HaveLikeHeads (truth a) (truth b) = a ≡ b
HaveLikeHeads (number m) (number n) = m ≡ n
HaveLikeHeads (text a) (text b) = a ≡ b
HaveLikeHeads (items vs) (items ws) = count_of vs ≡ count_of ws
HaveLikeHeads (logic k) (logic l) = k ≡ l
HaveLikeHeads naught naught = ⊤
HaveLikeHeads _ _ = ⊥

-- the items pair by pair
abbrev pub pairs_in : Vals FormId → Vals FormId → List (Val FormId × Val FormId)
pairs_in (item v vs) (item w ws) = (v, w) ∷ pairs_in vs ws
pairs_in _ _ = []

-- those of lists
abbrev pub pairs_of : Val FormId → Val FormId → List (Val FormId × Val FormId)
pairs_of (items vs) (items ws) = pairs_in vs ws
pairs_of _ _ = []

-- the values of each pair are alike
abbrev pub ArePairsAlike : List (Val FormId × Val FormId) → Type 0
ArePairsAlike [] = ⊤
ArePairsAlike (p ∷ ps) = Alike p.0 p.1 × ArePairsAlike ps

-- the values behind the references
abbrev pub pairs_under : List (Bor Value × Bor Value) → List (Val FormId × Val FormId)
pairs_under ps = map (λ p. (value_of p.0.now, value_of p.1.now)) ps

-- the first values of the pairs
abbrev pub lefts : List (Val FormId × Val FormId) → List (Val FormId)
lefts ps = map (λ p. p.0) ps
