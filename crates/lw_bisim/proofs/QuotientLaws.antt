-- The laws of bisimilar worlds and of quotients: truth is kept, worlds differ, and no model with the same truths is smaller.
use Rattle.std.proofs.Common.{◌≡◌, ◌≢◌, ℕ, ◌<◌, length, ⊎_elim, refl, subst, sym, ◌∙◌, arith}
use Rattle.std.proofs.lemmas.Bool.{cases_eq}
use Rattle.lw_formula.specs.FiniteModel.{FiniteModel, IsWellFormed}
use Rattle.lw_formula.specs.Truth.{IsTrueAt}
use Rattle.std.specs.List.{Contains}
use Rattle.lw_bisim.specs.Bisimulation.{IsBisimulation}
use Rattle.lw_bisim.specs.Quotient.{Quotient, IsQuotient, place_of}
use Rattle.lw_bisim.specs.Laws.{BisimilarWorldsAgree, QuotientKeepsTruth, QuotientKeepsClass, QuotientRefutes, QuotientWorldsDiffer, QuotientIsSmallest}
use Rattle.lw_bisim.proofs.TruthKept.{same_truth}
use Rattle.lw_bisim.proofs.TellingFormulas.{Differ}
use Rattle.lw_bisim.proofs.StillRounds.{bisimilar_or_differ}
use Rattle.lw_bisim.proofs.QuotientFrames.{IsOf, of_class, class_GoesForthAndBack, class_kept}
use Rattle.lw_bisim.proofs.Injections.{le-from_injection}
use Rattle.lw_bisim.proofs.LeastWorlds.{least, least-IsLeastOf}

pub bisimilar_agree : BisimilarWorldsAgree
bisimilar_agree m v u ok l n = (
  λ b a.
      let h : IsBisimulation m b.0 = b.1 in
      same_truth a m m (λ x y. Contains b.0 (x, y)) (record { letters = h.letters; forth = h.forth; back = h.back }) v u b.2,
  λ same. ⊎_elim (λ b. b) (λ d. absurd (d.1.1 ((same d.0).0 d.1.0))) (bisimilar_or_differ m ok v u l n),
)

pub truth_kept : QuotientKeepsTruth
truth_kept m q ok h v l a = same_truth a m q.model (IsOf m q ok h) (class_GoesForthAndBack m q ok h) v (place_of q.places v) (l, refl)

pub class_kept_by_quotient : QuotientKeepsClass
class_kept_by_quotient logic m q h c = class_kept m q c.well_formed h logic c.frame

pub refutation_kept : QuotientRefutes
refutation_kept logic m q w a h r =
    let places : length q.places ≡ m.worlds = h.placed in
    let within : w < m.worlds = r.within in record {
      in_class = class_kept_by_quotient logic m q h r.in_class;
      within = h.numbered.below w 0 (omega arith);
      fails = λ t. r.fails ((truth_kept m q r.in_class.well_formed h w within a).1 t);
    }

-- worlds of different classes differ
classes_differ : (m : FiniteModel) (q : Quotient) → IsWellFormed m → IsQuotient m q → (v u : ℕ) → v < m.worlds → u < m.worlds → place_of q.places v ≢ place_of q.places u → Differ m v u
classes_differ m q ok h v u l k apart = ⊎_elim (λ same. absurd (apart ((h.classes v u l k).1 same))) (λ d. d) (bisimilar_or_differ m ok v u l k)

pub worlds_differ : QuotientWorldsDiffer
worlds_differ m q ok h c d l k apart =
    let v = of_class m q ok h c l in
    let u = of_class m q ok h d k in
    let a = classes_differ m q ok h v.0 u.0 v.1.0 u.1.0 (λ e. apart (sym v.1.1 ∙ e ∙ u.1.1)) in
    let related = class_GoesForthAndBack m q ok h in (
      a.0,
      (
        (same_truth a.0 m q.model (IsOf m q ok h) related v.0 c v.1).0 a.1.0,
        λ t. a.1.1 ((same_truth a.0 m q.model (IsOf m q ok h) related u.0 d u.1).1 t),
      ),
    )

pub quotient_smallest : QuotientIsSmallest
quotient_smallest m n q map ok h keeps =
    le-from_injection (λ c. map (world c)) q.model.worlds n.worlds
    (λ c l. keeps.within (world c) (within c l))
    (λ c d l k e. ⊎_elim (λ same. same) (λ apart. absurd (told c d l k e apart)) (cases_eq c d))
  where
    world : ℕ → ℕ
    world c = least q.places q.model.worlds h.numbered c

    within : (c : ℕ) → c < q.model.worlds → world c < m.worlds
    within c l =
        let w : world c < length q.places = (least-IsLeastOf q.places q.model.worlds h.numbered c l).within in
        let e : length q.places ≡ m.worlds = h.placed in
        omega arith

    place : (c : ℕ) → c < q.model.worlds → place_of q.places (world c) ≡ c
    place c l = (least-IsLeastOf q.places q.model.worlds h.numbered c l).place

    told : (c d : ℕ) → c < q.model.worlds → d < q.model.worlds → map (world c) ≡ map (world d) → c ≢ d → ⊥
    told c d l k e apart =
        let a = classes_differ m q ok h (world c) (world d) (within c l) (within d k) (λ s. apart (sym (place c l) ∙ s ∙ place d k)) in
        a.1.1 ((keeps.truth (world d) a.0 (within d k)).1 (subst (λ w. IsTrueAt n w a.0) e ((keeps.truth (world c) a.0 (within c l)).0 a.1.0)))
