-- Values and variables keep their formulas where the pool keeps its own.
use Rattle.std.proofs.Common.{◌≡◌, ℕ, List, [], ◌∷◌, refl, sym, ap, subst, arith}
use Rattle.lw_formula.specs.declared.sign.Sign.{Sign}
use Rattle.lw_formula.specs.Formula.{Formula}
use Rattle.lw_pool.specs.declared.id.FormId.{FormId}
use Rattle.lw_pool.specs.Region.{tree_at, IsLive, Grows}
use Rattle.lw_proof.specs.Tree.{Tree, Forest, node, none, more, map_tree, map_forest, EachPrincipal, EachOfAll}
use Rattle.lw_value.specs.Values.{Evidence, proved, refuted, Val, Vals, shown_by, shown_all, seen, seen_all, EachShown, EachOfItems, AreLive, AreItemsLive, formula, truth, number, text, items, logic, certificate, naught, empty, item}
use Rattle.lw_value.specs.Evidence.{HaveEvidence}
use Rattle.lw_value.specs.Assignments.{variables_seen, AreVariablesLive}

-- a signed formula, by its id
abbrev signed_pair : List Formula → Sign × FormId → Sign × Formula
signed_pair ts s = (s.0, tree_at ts s.1)

module _ (old new : List Formula) (g : Grows old new) where
  id_live : (a : FormId) → IsLive old a → IsLive new a
  id_live a live = omega (arith, live, g.longer)

  mutual
    proof_same : (t : Tree (Sign × FormId)) → EachPrincipal (λ s. IsLive old s.1) t → map_tree (signed_pair new) t ≡ map_tree (signed_pair old) t
    proof_same (node r s ts) live = λ i. node r (s.0, g.same s.1 live.0 i) (proofs_same ts live.1 i)

    proofs_same : (ts : Forest (Sign × FormId)) → EachOfAll (λ s. IsLive old s.1) ts → map_forest (signed_pair new) ts ≡ map_forest (signed_pair old) ts
    proofs_same none live = refl
    proofs_same (more t ts) live = λ i. more (proof_same t live.0 i) (proofs_same ts live.1 i)

  mutual
    proof_live : (t : Tree (Sign × FormId)) → EachPrincipal (λ s. IsLive old s.1) t → EachPrincipal (λ s. IsLive new s.1) t
    proof_live (node r s ts) live = (id_live s.1 live.0, proofs_live ts live.1)

    proofs_live : (ts : Forest (Sign × FormId)) → EachOfAll (λ s. IsLive old s.1) ts → EachOfAll (λ s. IsLive new s.1) ts
    proofs_live none live = tt
    proofs_live (more t ts) live = (proof_live t live.0, proofs_live ts live.1)

  evidence_same : (e : Evidence FormId) → EachShown (IsLive old) e → shown_by (tree_at new) e ≡ shown_by (tree_at old) e
  evidence_same (proved t) live = ap proved (proof_same t live)
  evidence_same (refuted m w) live = refl

  evidence_live : (e : Evidence FormId) → EachShown (IsLive old) e → EachShown (IsLive new) e
  evidence_live (proved t) live = proof_live t live
  evidence_live (refuted m w) live = tt

  mutual
    value_same : (v : Val FormId) → AreLive old v → seen new v ≡ seen old v
    value_same (formula a) live = ap formula (g.same a live)
    value_same (truth b) live = refl
    value_same (number n) live = refl
    value_same (text bytes) live = refl
    value_same (items vs) live = ap items (items_same vs live)
    value_same (logic l) live = refl
    value_same (certificate l a e) live = λ i. certificate l (g.same a live.0 i) (evidence_same e live.1 i)
    value_same naught live = refl

    items_same : (vs : Vals FormId) → EachOfItems (IsLive old) vs → shown_all (tree_at new) vs ≡ shown_all (tree_at old) vs
    items_same empty live = refl
    items_same (item v vs) live = λ i. item (value_same v live.0 i) (items_same vs live.1 i)

  mutual
    value_live : (v : Val FormId) → AreLive old v → AreLive new v
    value_live (formula a) live = id_live a live
    value_live (truth b) live = tt
    value_live (number n) live = tt
    value_live (text bytes) live = tt
    value_live (items vs) live = items_live vs live
    value_live (logic l) live = tt
    value_live (certificate l a e) live = (id_live a live.0, evidence_live e live.1)
    value_live naught live = tt

    items_live : (vs : Vals FormId) → EachOfItems (IsLive old) vs → EachOfItems (IsLive new) vs
    items_live empty live = tt
    items_live (item v vs) live = (value_live v live.0, items_live vs live.1)

-- a value has the same formulas in the grown pool
pub seen_grows : (old new : List Formula) (v : Val FormId) → Grows old new → AreLive old v → seen new v ≡ seen old v
seen_grows old new v g live = value_same old new g v live

-- the grown pool has the value's ids still
pub live_grows : (old new : List Formula) (v : Val FormId) → Grows old new → AreLive old v → AreLive new v
live_grows old new v g live = value_live old new g v live

-- the same of values in order
pub items_seen_grow : (old new : List Formula) (vs : Vals FormId) → Grows old new → AreItemsLive old vs → seen_all new vs ≡ seen_all old vs
items_seen_grow old new vs g live = items_same old new g vs live

pub items_live_grow : (old new : List Formula) (vs : Vals FormId) → Grows old new → AreItemsLive old vs → AreItemsLive new vs
items_live_grow old new vs g live = items_live old new g vs live

-- the same of variables
pub variables_seen_grow : (old new : List Formula) (ps : List (List ℕ × Val FormId)) → Grows old new → AreVariablesLive old ps → variables_seen new ps ≡ variables_seen old ps
variables_seen_grow old new [] g live = refl
variables_seen_grow old new (p ∷ ps) g live = λ i. (p.0, seen_grows old new p.1 g live.0 i) ∷ variables_seen_grow old new ps g live.1 i

pub variables_live_grow : (old new : List Formula) (ps : List (List ℕ × Val FormId)) → Grows old new → AreVariablesLive old ps → AreVariablesLive new ps
variables_live_grow old new [] g live = tt
variables_live_grow old new (p ∷ ps) g live = (live_grows old new p.1 g live.0, variables_live_grow old new ps g live.1)

-- the certificates in their values show what they did
pub variables_evidence_grows : (old new : List Formula) (ps : List (List ℕ × Val FormId)) → Grows old new → AreVariablesLive old ps →
    HaveEvidence (variables_seen old ps) → HaveEvidence (variables_seen new ps)
variables_evidence_grows old new ps g live has = subst HaveEvidence (sym (variables_seen_grow old new ps g live)) has
