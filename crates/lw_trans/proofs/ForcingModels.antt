-- Forcing in an intuitionistic model is truth of the translation in a model of S4.
use Rattle.std.proofs.Common.{ℕ, ◌<◌, Bool, List, ◌↔◌, inl, inr, ⊎_elim, refl}
use Rattle.std.specs.List.{filter}
use Rattle.lw_formula.specs.declared.logic.Logic.TheVariants.{S4}
use Rattle.lw_formula.specs.Formula.{Formula, letter, falsum, verum, neg, conj, disj, impl, equi, nec, poss}
use Rattle.lw_formula.specs.FiniteModel.{FiniteModel, IsWellFormed, Sees, HasFact}
use Rattle.lw_formula.specs.Class.{Class}
use Rattle.lw_formula.specs.Truth.{IsTrueAt, true_at}
use Rattle.lw_formula.specs.Validity.{Valid}
use Rattle.lw_formula.proofs.ListMembers.{Contains-filter, Contains-filter_cases, AreDistinct-filter}
use Rattle.lw_formula.proofs.RevaluedModels.{seen_below}
use Rattle.lw_formula.proofs.TruthTest.{true_at-IsTrueAt}
use Rattle.std.proofs.lemmas.List.Elements.{All-filter}
use Rattle.lw_trans.specs.declared.connective.Connective.TheVariants.{Nec, Poss, Iff, Top}
use Rattle.lw_trans.specs.Connectives.{IsIntuitionistic}
use Rattle.lw_trans.specs.Intuitionistic.{FactsGoUp, IsIntuitionisticModel, Forces, IntValid}
use Rattle.lw_trans.specs.Translations.{goedel}

-- n has m's relation, and a letter is true there exactly where its box is true in m
record IsForcingModel (n m : FiniteModel) : Type 0 where
  relation : (w v : ℕ) → Sees n w v ↔ Sees m w v
  within : (w v : ℕ) → Sees n w v → v < n.worlds
  facts : (w : ℕ) (p : List ℕ) → w < n.worlds → HasFact n w p ↔ IsTrueAt m w (nec (letter p))

-- the operands of an intuitionistic formula are intuitionistic
first_operand : (a b : Formula) → IsIntuitionistic (conj a b) → IsIntuitionistic a
first_operand a b plain = λ what h. plain what (inl h)

second_operand : (a b : Formula) → IsIntuitionistic (conj a b) → IsIntuitionistic b
second_operand a b plain = λ what h. plain what (inr h)

Forces-goedel : (n m : FiniteModel) → IsForcingModel n m → (a : Formula) → IsIntuitionistic a → (w : ℕ) → w < n.worlds → Forces n w a ↔ IsTrueAt m w (goedel a)
Forces-goedel n m of (letter p) plain w l = of.facts w p l
Forces-goedel n m of falsum plain w l = (λ h. h, λ h. h)
Forces-goedel n m of (neg a) plain w l = (
  λ none v sees h. let s = (of.relation w v).1 sees in none v s ((Forces-goedel n m of a plain v (of.within w v s)).1 h),
  λ none v sees h. none v ((of.relation w v).0 sees) ((Forces-goedel n m of a plain v (of.within w v sees)).0 h),
)
Forces-goedel n m of (conj a b) plain w l =
    let left = Forces-goedel n m of a (first_operand a b plain) w l in
    let right = Forces-goedel n m of b (second_operand a b plain) w l in
    (λ h. (left.0 h.0, right.0 h.1), λ h. (left.1 h.0, right.1 h.1))
Forces-goedel n m of (disj a b) plain w l =
    let left = Forces-goedel n m of a (first_operand a b plain) w l in
    let right = Forces-goedel n m of b (second_operand a b plain) w l in
    (λ h. ⊎_elim (λ x. inl (left.0 x)) (λ y. inr (right.0 y)) h, λ h. ⊎_elim (λ x. inl (left.1 x)) (λ y. inr (right.1 y)) h)
Forces-goedel n m of (impl a b) plain w l = (
  λ all v sees h.
      let s = (of.relation w v).1 sees in
      let k = of.within w v s in
      (Forces-goedel n m of b (second_operand a b plain) v k).0 (all v s ((Forces-goedel n m of a (first_operand a b plain) v k).1 h)),
  λ all v sees h.
      let k = of.within w v sees in
      (Forces-goedel n m of b (second_operand a b plain) v k).1 (all v ((of.relation w v).0 sees) ((Forces-goedel n m of a (first_operand a b plain) v k).0 h)),
)
Forces-goedel n m of verum plain w l = absurd (plain Top refl)
Forces-goedel n m of (equi a b) plain w l = absurd (plain Iff (inl refl))
Forces-goedel n m of (nec a) plain w l = absurd (plain Nec (inl refl))
Forces-goedel n m of (poss a) plain w l = absurd (plain Poss (inl refl))

-- whether the box of the fact's letter is true at the fact's world
abbrev is_known : FiniteModel → ℕ × List ℕ → Bool
is_known m f = true_at m f.0 (nec (letter f.1))

-- the model with those facts alone of which the box is true
abbrev known : FiniteModel → FiniteModel
known m = record { worlds = m.worlds; pairs = m.pairs; facts = filter (is_known m) m.facts }

-- a letter is true there exactly where its box was
HasFact-known : (m : FiniteModel) → Class S4 m → (w : ℕ) (p : List ℕ) → w < m.worlds → HasFact (known m) w p ↔ IsTrueAt m w (nec (letter p))
HasFact-known m class w p l = (
  λ h. (true_at-IsTrueAt m w (nec (letter p))).0 (Contains-filter_cases (is_known m) m.facts (w, p) h).1,
  λ h. Contains-filter (is_known m) m.facts (w, p) (h w (class.frame.0 w l)) ((true_at-IsTrueAt m w (nec (letter p))).1 h),
)

known-IsWellFormed : (m : FiniteModel) → IsWellFormed m → IsWellFormed (known m)
known-IsWellFormed m ok = record {
  inhabited = ok.inhabited;
  pairs_within = ok.pairs_within;
  pairs_distinct = ok.pairs_distinct;
  facts_within = All-filter (is_known m) (λ f. f.0 < m.worlds) m.facts ok.facts_within;
  facts_distinct = AreDistinct-filter (is_known m) m.facts ok.facts_distinct;
}

-- what is known stays known
known-FactsGoUp : (m : FiniteModel) → Class S4 m → FactsGoUp (known m)
known-FactsGoUp m class p w v h sees =
    let box = (true_at-IsTrueAt m w (nec (letter p))).0 (Contains-filter_cases (is_known m) m.facts (w, p) h).1 in
    Contains-filter (is_known m) m.facts (v, p) (box v sees)
    ((true_at-IsTrueAt m v (nec (letter p))).1 (λ u s. box u (class.frame.1 w v u sees s)))

known-IsIntuitionisticModel : (m : FiniteModel) → Class S4 m → IsIntuitionisticModel (known m)
known-IsIntuitionisticModel m class = record {
  preorder = record { well_formed = known-IsWellFormed m class.well_formed; frame = class.frame };
  upwards = known-FactsGoUp m class;
}

known-IsForcingModel : (m : FiniteModel) → Class S4 m → IsForcingModel (known m) m
known-IsForcingModel m class = record {
  relation = λ w v. (λ s. s, λ s. s);
  within = λ w v s. seen_below m class.well_formed w v s;
  facts = HasFact-known m class;
}

-- an intuitionistic model is its own
own-IsForcingModel : (n : FiniteModel) → IsIntuitionisticModel n → IsForcingModel n n
own-IsForcingModel n of = record {
  relation = λ w v. (λ s. s, λ s. s);
  within = λ w v s. seen_below n of.preorder.well_formed w v s;
  facts = λ w p l. (λ h v s. of.upwards p w v h s, λ h. h w (of.preorder.frame.0 w l));
}

pub IntValid-goedel : (a : Formula) → IsIntuitionistic a → IntValid a ↔ Valid S4 (goedel a)
IntValid-goedel a plain = (
  λ valid m class w l. (Forces-goedel (known m) m (known-IsForcingModel m class) a plain w l).0 (valid (known m) (known-IsIntuitionisticModel m class) w l),
  λ valid n of w l. (Forces-goedel n n (own-IsForcingModel n of) a plain w l).1 (valid n of.preorder w l),
)
