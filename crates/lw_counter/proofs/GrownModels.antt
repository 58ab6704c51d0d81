-- Models that grow by pairs and by facts.
use Rattle.std.proofs.Common.{◌≡◌, ℕ, ◌+◌, ◌<◌, ◌≤◌, true, List, [], ◌∷◌, length, get_or, take, ◌⊎◌, ◌↔◌, inl, inr, refl, ap, sym, subst, ◌∙◌, arith}
use Rattle.std.specs.List.{Contains}
use Rattle.std.proofs.lemmas.List.{take_more, take_all}
use Rattle.std.proofs.lemmas.List.Elements.{Contains-append_left, Contains-push, Contains-push_cases}
use Rattle.lw_formula.specs.declared.logic.Logic.{Logic}
use Rattle.lw_formula.specs.declared.sign.Sign.TheVariants.{T}
use Rattle.lw_formula.specs.Formula.{Formula, letter}
use Rattle.lw_formula.specs.FiniteModel.{FiniteModel, IsWellFormed, Sees, HasFact}
use Rattle.lw_formula.specs.Signed.{Signed}
use Rattle.lw_formula.proofs.ListTests.{list_any-Decides}
use Rattle.lw_formula.proofs.ListMembers.{Contains-nil}
use Rattle.lw_proof.specs.System.{same_signed}
use Rattle.lw_proof.proofs.SignedMeaning.{same_signed-Decides}
use Rattle.lw_closure.specs.Table.{Table, signed_of}
use Rattle.lw_model.specs.Edits.{AddsPair, AddsFact}
use Rattle.lw_counter.specs.Countermodel.{IsModelOf}
use Rattle.lw_counter.specs.Fragment.{Fragment, world_at, formulas_of}
use Rattle.lw_counter.specs.FragmentPaths.{IsRelated}
use Rattle.lw_counter.specs.Private.BuiltRelation.{Square, Joins, AddsPairs, AddsFacts, IsSquareOf}
use Rattle.lw_counter.specs.Private.LabelFacts.{SaysTrue, FactsBelow}
use Rattle.lw_counter.proofs.BitSquares.{adds_same, adds_then, adds_as, last_or}

-- one pair
one_pair : (m k : FiniteModel) (v w : ℕ) → AddsPair m v w k → AddsPairs m k (λ a b. (a ≡ v) × (b ≡ w))
one_pair m k v w h = record {
  worlds = h.worlds;
  facts = h.facts;
  pairs = record {
    keeps = λ a b x. (h.relation a b).1 (inl x);
    adds = λ a b x. (h.relation a b).1 (inr (sym x.0, sym x.1));
    only = λ a b x. elim ((h.relation a b).0 x) [ inl old ↦ inl old | inr new ↦ inr (sym new.0, sym new.1) ];
  };
}

-- the loop over a row of the relation
abbrev pub PairsOfRow : Square → ℕ → ℕ → ℕ → ℕ → Type 0
PairsOfRow s from i w v = (w ≡ from) × (v < i) × Joins s w v

pub pairs_none : (s : Square) (m : FiniteModel) (from : ℕ) → AddsPairs m m (PairsOfRow s from 0)
pairs_none s m from = record { worlds = refl; facts = refl; pairs = adds_same (Sees m) (PairsOfRow s from 0) (λ w v x. (let l : v < 0 = x.1 in absurd (omega arith))) }

pub pairs_more : (s : Square) (m k j : FiniteModel) (from i : ℕ) → AddsPairs m k (PairsOfRow s from i) → Joins s from i → AddsPair k from i j → AddsPairs m j (PairsOfRow s from (i + 1))
pairs_more s m k j from i a there h =
    let b = one_pair k j from i h in record {
      worlds = b.worlds ∙ a.worlds;
      facts = b.facts ∙ a.facts;
      pairs = adds_then (Sees m) (Sees k) (Sees j) (PairsOfRow s from i) (λ a b. (a ≡ from) × (b ≡ i)) (PairsOfRow s from (i + 1)) a.pairs b.pairs
          (λ w v x. (x.0, omega arith, x.2))
          (λ w v x. (x.0, omega arith, subst (Joins s w) (sym x.1) (subst (λ y. Joins s y i) (sym x.0) there)))
          (λ w v x. elim (last_or i v x.1) [ inl l ↦ inl (x.0, l, x.2) | inr q ↦ inr (x.0, q) ]);
    }

pub pairs_skip : (s : Square) (m k : FiniteModel) (from i : ℕ) → AddsPairs m k (PairsOfRow s from i) → ¬ Joins s from i → AddsPairs m k (PairsOfRow s from (i + 1))
pairs_skip s m k from i a none = record {
  worlds = a.worlds;
  facts = a.facts;
  pairs = adds_as (Sees m) (Sees k) (PairsOfRow s from i) (PairsOfRow s from (i + 1)) a.pairs
      (λ w v x. (x.0, omega arith, x.2))
      (λ w v x. elim (last_or i v x.1) [ inl l ↦ inl (x.0, l, x.2) | inr q ↦ absurd (none (subst (λ y. Joins s y i) x.0 (subst (Joins s w) q x.2))) ]);
}

pub pairs_end : (s : Square) (m k : FiniteModel) (from n : ℕ) → AddsPairs m k (PairsOfRow s from n) → n ≡ s.count → AddsPairs m k (λ w v. (w ≡ from) × Joins s w v)
pairs_end s m k from n a e = record {
  worlds = a.worlds;
  facts = a.facts;
  pairs = adds_as (Sees m) (Sees k) (PairsOfRow s from n) (λ w v. (w ≡ from) × Joins s w v) a.pairs
      (λ w v x. (x.0, x.2))
      (λ w v x. inl (x.0, subst (λ y. v < y) (sym e) x.1.1, x.1));
}

-- the loop over the rows
abbrev pub PairsBelow : Square → ℕ → ℕ → ℕ → Type 0
PairsBelow s i w v = (w < i) × Joins s w v

pub rows_none : (s : Square) (m : FiniteModel) → AddsPairs m m (PairsBelow s 0)
rows_none s m = record { worlds = refl; facts = refl; pairs = adds_same (Sees m) (PairsBelow s 0) (λ w v x. (let l : w < 0 = x.0 in absurd (omega arith))) }

pub rows_more : (s : Square) (m k u : FiniteModel) (i : ℕ) → AddsPairs m k (PairsBelow s i) → AddsPairs k u (λ w v. (w ≡ i) × Joins s w v) → AddsPairs m u (PairsBelow s (i + 1))
rows_more s m k u i a b = record {
  worlds = b.worlds ∙ a.worlds;
  facts = b.facts ∙ a.facts;
  pairs = adds_then (Sees m) (Sees k) (Sees u) (PairsBelow s i) (λ w v. (w ≡ i) × Joins s w v) (PairsBelow s (i + 1)) a.pairs b.pairs
      (λ w v x. (omega arith, x.1))
      (λ w v x. (omega arith, x.1))
      (λ w v x. elim (last_or i w x.0) [ inl l ↦ inl (l, x.1) | inr q ↦ inr (q, x.1) ]);
}

pub rows_end : (s : Square) (m k : FiniteModel) (n : ℕ) → AddsPairs m k (PairsBelow s n) → n ≡ s.count → AddsPairs m k (Joins s)
rows_end s m k n a e = record {
  worlds = a.worlds;
  facts = a.facts;
  pairs = adds_as (Sees m) (Sees k) (PairsBelow s n) (Joins s) a.pairs
      (λ w v x. x.1)
      (λ w v x. inl (subst (λ y. w < y) (sym e) x.0, x));
}

module _ (ts : List Formula) (t : Table) where
  -- the loop over a label
  abbrev pub FactsOf : ℕ → List ℕ → ℕ → ℕ → List ℕ → Type 0
  FactsOf world label i w p = (w ≡ world) × SaysTrue ts t (take i label) p

  pub facts_none : (m : FiniteModel) (world : ℕ) (label : List ℕ) → AddsFacts m m (FactsOf world label 0)
  facts_none m world label = record { worlds = refl; pairs = refl; facts = adds_same (HasFact m) (FactsOf world label 0) (λ w p x. absurd (Contains-nil x.1.0 x.1.1)) }

  more_items : (label : List ℕ) (i : ℕ) → i < length label → (p : List ℕ) → SaysTrue ts t (take i label) p → SaysTrue ts t (take (i + 1) label) p
  more_items label i l p x = (x.0, subst (λ xs. Contains xs x.0) (sym (take_more label i 0 l)) (Contains-append_left (take i label) (get_or label i 0 ∷ []) x.0 x.1), x.2)

  last_item : (label : List ℕ) (i : ℕ) → i < length label → (p : List ℕ) → SaysTrue ts t (take (i + 1) label) p → SaysTrue ts t (take i label) p ⊎ (signed_of ts t (get_or label i 0) ≡ (T, letter p))
  last_item label i l p x = elim (Contains-push_cases (take i label) (get_or label i 0) x.0 (subst (λ xs. Contains xs x.0) (take_more label i 0 l) x.1)) [
    | inl old ↦ inl (x.0, old, x.2)
    | inr same ↦ inr (ap (signed_of ts t) same ∙ x.2)
  ]

  pub facts_more : (m k j : FiniteModel) (world : ℕ) (label : List ℕ) (i : ℕ) (name : List ℕ) → AddsFacts m k (FactsOf world label i) → i < length label → signed_of ts t (get_or label i 0) ≡ (T, letter name) → AddsFact k world name j → AddsFacts m j (FactsOf world label (i + 1))
  facts_more m k j world label i name a l says h = record {
    worlds = h.worlds ∙ a.worlds;
    pairs = h.pairs ∙ a.pairs;
    facts = record {
      keeps = λ w p x. (h.relation w p).1 (inl (a.facts.keeps w p x));
      adds = λ w p x. elim (last_item label i l p x.1) [
        | inl old ↦ (h.relation w p).1 (inl (a.facts.adds w p (x.0, old)))
        | inr new ↦ (h.relation w p).1 (inr (sym x.0, same_name p (sym says ∙ new)))
      ];
      only = λ w p x. elim ((h.relation w p).0 x) [
        | inl old ↦ elim (a.facts.only w p old) [ inl first ↦ inl first | inr new ↦ inr (new.0, more_items label i l p new.1) ]
        | inr new ↦ inr (sym new.0, (get_or label i 0, subst (λ xs. Contains xs (get_or label i 0)) (sym (take_more label i 0 l)) (Contains-push (take i label) (get_or label i 0)), says ∙ ap (λ y. (T, letter y)) new.1))
      ];
    };
  }
    where
      same_name : (p : List ℕ) → ◌≡◌ {A = Signed} (T, letter name) (T, letter p) → name ≡ p
      same_name p r = let s : letter name ≡ letter p = ap (λ (x : Signed). x.1) r in cc

  pub facts_end : (m k : FiniteModel) (world : ℕ) (label : List ℕ) (i : ℕ) → AddsFacts m k (FactsOf world label i) → length label ≤ i → AddsFacts m k (λ w p. (w ≡ world) × SaysTrue ts t label p)
  facts_end m k world label i a l = subst (λ xs. AddsFacts m k (λ w p. (w ≡ world) × SaysTrue ts t xs p)) (take_all i label l) a

  pub facts_skip : (m k : FiniteModel) (world : ℕ) (label : List ℕ) (i : ℕ) → AddsFacts m k (FactsOf world label i) → i < length label → ((p : List ℕ) → ¬ (signed_of ts t (get_or label i 0) ≡ (T, letter p))) → AddsFacts m k (FactsOf world label (i + 1))
  facts_skip m k world label i a l none = record {
    worlds = a.worlds;
    pairs = a.pairs;
    facts = adds_as (HasFact m) (HasFact k) (FactsOf world label i) (FactsOf world label (i + 1)) a.facts
        (λ w p x. (x.0, more_items label i l p x.1))
        (λ w p x. elim (last_item label i l p x.1) [ inl old ↦ inl (x.0, old) | inr new ↦ absurd (none p new) ]);
  }

  -- the loop over the worlds
  pub worlds_none : (m : FiniteModel) (f : Fragment) → AddsFacts m m (FactsBelow ts t f 0)
  worlds_none m f = record { worlds = refl; pairs = refl; facts = adds_same (HasFact m) (FactsBelow ts t f 0) (λ w p x. (let l : w < 0 = x.0 in absurd (omega arith))) }

  pub worlds_more : (m k u : FiniteModel) (f : Fragment) (i : ℕ) → AddsFacts m k (FactsBelow ts t f i) → AddsFacts k u (λ w p. (w ≡ i) × SaysTrue ts t ((world_at f i).label) p) → AddsFacts m u (FactsBelow ts t f (i + 1))
  worlds_more m k u f i a b = record {
    worlds = b.worlds ∙ a.worlds;
    pairs = b.pairs ∙ a.pairs;
    facts = adds_then (HasFact m) (HasFact k) (HasFact u) (FactsBelow ts t f i) (λ w p. (w ≡ i) × SaysTrue ts t ((world_at f i).label) p) (FactsBelow ts t f (i + 1)) a.facts b.facts
        (λ w p x. (omega arith, x.1))
        (λ w p x. (omega arith, subst (λ y. SaysTrue ts t ((world_at f y).label) p) (sym x.0) x.1))
        (λ w p x. elim (last_or i w x.0) [ inl l ↦ inl (l, x.1) | inr q ↦ inr (q, subst (λ y. SaysTrue ts t ((world_at f y).label) p) q x.1) ]);
  }

  -- the model with the pairs of the relation and the facts of the labels
  pub made : (L : Logic) (f : Fragment) (s : Square) (k m : FiniteModel) → IsSquareOf (length f.worlds) (IsRelated L f) s →
      AddsPairs (record { worlds = length f.worlds; pairs = []; facts = [] }) k (Joins s) → AddsFacts k m (FactsBelow ts t f (length f.worlds)) → IsWellFormed m → IsModelOf L f (formulas_of ts t f) m
  made L f s k m r a b formed = record {
    well_formed = formed;
    worlds = b.worlds ∙ a.worlds;
    sees = λ w v. (
      (λ x. elim (a.pairs.only w v (subst (λ ps. Contains ps (w, v)) b.pairs x)) [
        | inl none ↦ absurd (Contains-nil (w, v) none)
        | inr j ↦ (
            let size : s.count ≡ length f.worlds = r.count in
            let first : w < s.count = j.0 in
            let second : v < s.count = j.1 in
            (omega arith, omega arith, (r.joins w v (omega arith) (omega arith)).0 j)
            )
      ]),
      (λ x. subst (λ ps. Contains ps (w, v)) (sym b.pairs) (a.pairs.adds w v ((r.joins w v x.0 x.1).1 x.2))),
    );
    facts = λ w p. (
      (λ x. elim (b.facts.only w p x) [
        | inl old ↦ absurd (Contains-nil (w, p) (subst (λ fs. Contains fs (w, p)) a.facts old))
        | inr new ↦ (new.0, (in_label w p).1 new.1)
      ]),
      (λ x. b.facts.adds w p (x.0, (in_label w p).0 x.1)),
    );
  }
    where
      in_label : (w : ℕ) (p : List ℕ) → (formulas_of ts t f w (T, letter p) ≡ true) ↔ SaysTrue ts t ((world_at f w).label) p
      in_label w p = list_any-Decides (λ i. same_signed (signed_of ts t i) (T, letter p)) (λ i. signed_of ts t i ≡ (T, letter p)) (λ i. same_signed-Decides (signed_of ts t i) (T, letter p)) ((world_at f w).label)
