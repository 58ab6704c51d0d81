-- What the quotient of a model sees, and why it is of the logic's class where the model is.
use Rattle.std.proofs.Common.{◌≡◌, ◌≢◌, ℕ, ◌<◌, length, ◌↔◌, ⊎_elim, refl, ap, subst, sym, ◌∙◌, arith}
use Rattle.std.proofs.lemmas.Bool.{cases_eq}
use Rattle.lw_formula.specs.declared.logic.Logic.{Logic}
use Rattle.lw_formula.specs.declared.logic.Logic.TheVariants.{K, KT, S4, S5, GL, Grz, K4, KD}
use Rattle.lw_formula.specs.FiniteModel.{FiniteModel, IsWellFormed, Sees, HasFact}
use Rattle.lw_formula.specs.Class.{Class, HasFrame, IsReflexive, IsIrreflexive, IsTransitive, IsSymmetric, IsAntisymmetric, IsSerial}
use Rattle.lw_bisim.specs.Bisimulation.{IsBisimulation}
use Rattle.lw_bisim.specs.Quotient.{Quotient, IsQuotient, place_of}
use Rattle.lw_bisim.proofs.StillRounds.{seen_within}
use Rattle.lw_bisim.proofs.StrictClimbs.{climb}
use Rattle.lw_bisim.proofs.TruthKept.{GoesForthAndBack}

module _ (m : FiniteModel) (q : Quotient) (ok : IsWellFormed m) (h : IsQuotient m q) where
  -- v is a world of class c
  abbrev pub IsOf : ℕ → ℕ → Type 0
  IsOf v c = (v < m.worlds) × (place_of q.places v ≡ c)

  -- what the class of a world sees, the world sees
  seen_from : (v c d : ℕ) → IsOf v c → Sees q.model c d → (u : ℕ) × Sees m v u × IsOf u d
  seen_from v c d at seen =
      let s = (h.sees c d).0 seen in
      let ends = seen_within m ok s.0 s.1 s.2 in
      let same = (h.classes s.0 v ends.0 at.0).0 (s.3 ∙ sym at.1) in
      let bisimulation : IsBisimulation m same.0 = same.1 in
      let t = bisimulation.forth s.0 v s.1 same.2 s.2 in
      let within = (seen_within m ok v t.0 t.1).1 in
      (t.0, t.1, (within, sym ((h.classes s.1 t.0 ends.1 within).1 (same.0, same.1, t.2)) ∙ s.4))

  -- and what a world sees, its class sees
  seen_by_class : (v u : ℕ) → Sees m v u → Sees q.model (place_of q.places v) (place_of q.places u)
  seen_by_class v u s = (h.sees (place_of q.places v) (place_of q.places u)).1 (v, u, s, refl, refl)

  -- a class that sees another has a world
  of_seeing : (c d : ℕ) → Sees q.model c d → (v : ℕ) × IsOf v c
  of_seeing c d seen = let s = (h.sees c d).0 seen in (s.0, ((seen_within m ok s.0 s.1 s.2).0, s.3))

  pub of_class : (c : ℕ) → c < q.model.worlds → (v : ℕ) × IsOf v c
  of_class c l =
      let t = h.numbered.taken c l in
      let w : t.0 < length q.places = t.1.within in
      let e : length q.places ≡ m.worlds = h.placed in
      (t.0, (omega arith, t.1.place))

  pub class_GoesForthAndBack : GoesForthAndBack m q.model IsOf
  class_GoesForthAndBack = record {
    letters = λ v c at p. subst (λ d. HasFact m v p ↔ HasFact q.model d p) at.1 (let i = h.letters v p at.0 in (i.1, i.0));
    forth = λ v c w at s. (
      place_of q.places w,
      subst (λ d. Sees q.model d (place_of q.places w)) at.1 (seen_by_class v w s),
      ((seen_within m ok v w s).1, refl),
    );
    back = λ v c d at s. seen_from v c d at s;
  }

  reflexive : IsReflexive m → IsReflexive q.model
  reflexive r c l =
      let v = of_class c l in
      subst (λ d. Sees q.model d d) v.1.1 (seen_by_class v.0 v.0 (r v.0 v.1.0))

  symmetric : IsSymmetric m → IsSymmetric q.model
  symmetric r c d seen =
      let v = of_seeing c d seen in
      let u = seen_from v.0 c d v.1 seen in
      subst (λ b. Sees q.model d b) v.1.1 (subst (λ b. Sees q.model b (place_of q.places v.0)) u.2.1 (seen_by_class u.0 v.0 (r v.0 u.0 u.1)))

  transitive : IsTransitive m → IsTransitive q.model
  transitive r c d e first second =
      let v = of_seeing c d first in
      let u = seen_from v.0 c d v.1 first in
      let w = seen_from u.0 d e u.2 second in
      subst (λ b. Sees q.model c b) w.2.1 (subst (λ b. Sees q.model b (place_of q.places w.0)) v.1.1 (seen_by_class v.0 w.0 (r v.0 u.0 w.0 u.1 w.1)))

  -- the class of a world sees the class of the world that it sees
  serial : IsSerial m → IsSerial q.model
  serial r c l =
      let v = of_class c l in
      let u = r v.0 v.1.0 in
      (place_of q.places u.0, subst (λ d. Sees q.model d (place_of q.places u.0)) v.1.1 (seen_by_class v.0 u.0 u.1))

  -- a class that sees itself would have worlds without end, each seen by one before
  irreflexive : IsTransitive m → IsIrreflexive m → IsIrreflexive q.model
  irreflexive up apart c seen =
      let v = of_seeing c c seen in
      let antisymmetric : IsAntisymmetric m = λ a b s t. absurd (apart a (up a b a s t)) in
      climb m up antisymmetric (λ w. ¬ IsOf w c)
      (λ w later at.
      let u = seen_from w c c at seen in
      later u.0 u.1 (λ e. apart w (subst (λ b. Sees m w b) (sym e) u.1)) u.2)
      v.0 v.1

  -- two classes that see each other would have worlds without end, in turn
  antisymmetric : IsTransitive m → IsAntisymmetric m → IsAntisymmetric q.model
  antisymmetric up one c d there back = ⊎_elim (λ e. e) (λ apart. absurd (endless apart)) (cases_eq c d)
    where
      next : (a b : ℕ) → a ≢ b → Sees q.model a b → (w : ℕ) → ((u : ℕ) → Sees m w u → w ≢ u → ¬ IsOf u b) → ¬ IsOf w a
      next a b apart seen w later at =
          let u = seen_from w a b at seen in
          later u.0 u.1 (λ e. apart (sym at.1 ∙ ap (place_of q.places) e ∙ u.2.1)) u.2

      endless : c ≢ d → ⊥
      endless apart =
          let v = of_seeing c d there in
          (climb m up one (λ w. (¬ IsOf w c) × (¬ IsOf w d))
          (λ w later. (
            next c d apart there w (λ u s ne. (later u s ne).1),
            next d c (λ e. apart (sym e)) back w (λ u s ne. (later u s ne).0),
          ))
          v.0).0 v.1

  frame : (logic : Logic) → HasFrame logic m → HasFrame logic q.model
  frame K f = f
  frame KT f = reflexive f
  frame S4 f = (reflexive f.0, transitive f.1)
  frame S5 f = (reflexive f.0, symmetric f.1, transitive f.2)
  frame GL f = (transitive f.0, irreflexive f.0 f.1)
  frame Grz f = (reflexive f.0, transitive f.1, antisymmetric f.1 f.2)
  frame K4 f = transitive f
  frame KD f = serial f

  pub class_kept : (logic : Logic) → HasFrame logic m → Class logic q.model
  class_kept logic f = record { well_formed = h.well_formed; frame = frame logic f }
