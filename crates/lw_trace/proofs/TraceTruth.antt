-- The trace of a letterless formula and its normal form tell of its truth in GL.
use Rattle.std.proofs.Common.{◌≡◌, ℕ, suc, ◌≤◌, Bool, true, false, not, max, List, [], if◌then◌else◌, ◌↔◌, ⊎_elim, refl, sym, ap, ◌∙◌, subst, arith}
use Rattle.std.specs.Bool.{Decides, beq}
use Rattle.std.specs.List.{Contains, filter}
use Rattle.std.proofs.lemmas.Bool.{false≢true, cases_lt}
use Rattle.std.proofs.lemmas.Bool.Decides.{same_from_decides}
use Rattle.lw_formula.specs.declared.logic.Logic.TheVariants.{GL}
use Rattle.lw_formula.specs.Class.{Class}
use Rattle.lw_formula.specs.FiniteModel.{FiniteModel}
use Rattle.lw_formula.specs.Formula.{Formula, equi, depth}
use Rattle.lw_formula.specs.Truth.{IsTrueAt}
use Rattle.lw_formula.specs.Validity.{Valid}
use Rattle.lw_formula.proofs.ListMembers.{Contains-nil, Contains-filter, Contains-filter_cases}
use Rattle.lw_fix.proofs.StrictOrders.{order, order-Class}
use Rattle.lw_trace.specs.Heights.{height}
use Rattle.lw_trace.specs.LetterlessTruth.{IsLetterless, holds_at, rest, exceptions, heights_below, TruthByHeight, trace_of}
use Rattle.lw_trace.specs.LetterlessForm.{is_among, is_outside, form_of, letterless_of}
use Rattle.lw_trace.proofs.WorldHeights.{height-AreHeights}
use Rattle.lw_trace.proofs.BelowHeights.{heights_below-Contains, filter-none, filter-heights_below}
use Rattle.lw_trace.proofs.HeightTruth.{holds_at-IsTrueAt}
use Rattle.lw_trace.proofs.SettledTruth.{holds_at-settled}
use Rattle.lw_trace.proofs.OrderedWorlds.{order-heights}
use Rattle.lw_trace.proofs.FormTruth.{is_among-Decides, holds_at-is_outside, is_among-IsLetterless, is_outside-IsLetterless}

pub true_by_height : (m : FiniteModel) → Class GL m → (a : Formula) → IsLetterless a → (w : ℕ) → Decides (holds_at a (height m w)) (IsTrueAt m w a)
true_by_height m class = holds_at-IsTrueAt m class.frame.0 class.frame.1 (height m) (height-AreHeights m class)

-- valid formulas are those that are true at all heights
pub Valid-everywhere : (a : Formula) → IsLetterless a → Valid GL a ↔ ((n : ℕ) → holds_at a n ≡ true)
Valid-everywhere a free = (
  λ valid n.
      let class = order-Class (suc n) (omega arith) in
      let top = order-heights (suc n) (height (order (suc n))) (height-AreHeights (order (suc n)) class) 0 (omega arith) in
      let same : height (order (suc n)) 0 ≡ n = omega (arith, top) in
      subst (λ k. holds_at a k ≡ true) same ((true_by_height (order (suc n)) class a free 0).1 (valid (order (suc n)) class 0 (omega arith))),
  λ all m class w l. (true_by_height m class a free w).0 (all (height m w)),
)

beq-same : (x y : Bool) → x ≡ y → not (beq x y) ≡ false
beq-same true true e = refl
beq-same true false e = absurd (false≢true (sym e))
beq-same false true e = absurd (false≢true e)
beq-same false false e = refl

beq-from : (x y : Bool) → not (beq x y) ≡ false → x ≡ y
beq-from true true e = refl
beq-from true false e = absurd (false≢true (sym e))
beq-from false true e = absurd (false≢true (sym e))
beq-from false false e = refl

-- whether the truth value at a height is other than that from the modal depth on
abbrev is_exception : Formula → ℕ → Bool
is_exception a n = not (beq (holds_at a n) (rest a))

-- from the modal depth on there are no exceptions
pub no_exception : (a : Formula) (n : ℕ) → depth a ≤ n → is_exception a n ≡ false
no_exception a n l = beq-same (holds_at a n) (rest a) (holds_at-settled a n (depth a) l (omega arith))

exceptions-Decides : (a : Formula) (n : ℕ) → Decides (is_exception a n) (Contains (exceptions a) n)
exceptions-Decides a n = (
  λ e.
      ⊎_elim
      (λ below. Contains-filter (is_exception a) (heights_below (depth a)) n ((heights_below-Contains (depth a) n).1 below) e)
      (λ above. absurd (false≢true (sym (no_exception a n above) ∙ e)))
      (cases_lt n (depth a)),
  λ h. (Contains-filter_cases (is_exception a) (heights_below (depth a)) n h).1,
)

pub same_trace : (s t : TruthByHeight) → s.rest ≡ t.rest → s.heights ≡ t.heights → s ≡ t
same_trace s t e f = λ i. record { rest = e i; heights = f i }

pub trace_of-everywhere : (a : Formula) → ((n : ℕ) → holds_at a n ≡ true) ↔ (trace_of a ≡ record { rest = true; heights = [] })
trace_of-everywhere a = (
  λ all.
      same_trace (trace_of a) (record { rest = true; heights = [] }) (all (depth a))
      (filter-none (is_exception a) (heights_below (depth a)) (λ n h. beq-same (holds_at a n) (rest a) (all n ∙ sym (all (depth a))))),
  λ e n.
      let none : exceptions a ≡ [] = ap (λ (t : TruthByHeight). t.heights) e in
      let yes : rest a ≡ true = ap (λ (t : TruthByHeight). t.rest) e in
      beq-from (holds_at a n) (rest a) (by_test n none (is_exception a n) refl) ∙ yes,
)
  where
    by_test : (n : ℕ) → exceptions a ≡ [] → (b : Bool) → is_exception a n ≡ b → is_exception a n ≡ false
    by_test n none true e = absurd (Contains-nil n (subst (λ ks. Contains ks n) none ((exceptions-Decides a n).0 e)))
    by_test n none false e = e

-- what is the other value at the exceptions is the formula's
form_at : (x y : Bool) (ks : List ℕ) (n : ℕ) → holds_at (is_among ks) n ≡ not (beq x y) → holds_at (form_of (record { rest = y; heights = ks })) n ≡ x
form_at true true ks n e = holds_at-is_outside ks n ∙ ap not e
form_at false true ks n e = holds_at-is_outside ks n ∙ ap not e
form_at true false ks n e = e
form_at false false ks n e = e

pub holds_at-letterless_of : (a : Formula) (n : ℕ) → holds_at (letterless_of a) n ≡ holds_at a n
holds_at-letterless_of a n =
    form_at (holds_at a n) (rest a) (exceptions a) n
    (same_from_decides (holds_at (is_among (exceptions a)) n) (is_exception a n) (is_among-Decides (exceptions a) n) (exceptions-Decides a n))

form_of-IsLetterless : (t : TruthByHeight) → IsLetterless (form_of t)
form_of-IsLetterless t = by_rest t.rest
  where
    by_rest : (b : Bool) → IsLetterless (if b then is_outside t.heights else is_among t.heights)
    by_rest true = is_outside-IsLetterless t.heights
    by_rest false = is_among-IsLetterless t.heights

pub letterless_of-IsLetterless : (a : Formula) → IsLetterless (letterless_of a)
letterless_of-IsLetterless a = form_of-IsLetterless (trace_of a)

both-IsLetterless : (a b : Formula) → IsLetterless a → IsLetterless b → IsLetterless (equi a b)
both-IsLetterless a b left right p o = ⊎_elim (λ l. left p l) (λ r. right p r) o

beq-true : (x y : Bool) → x ≡ y → beq x y ≡ true
beq-true true true e = refl
beq-true true false e = sym e
beq-true false true e = e
beq-true false false e = refl

true-beq : (x y : Bool) → beq x y ≡ true → x ≡ y
true-beq true true e = refl
true-beq true false e = sym e
true-beq false true e = e
true-beq false false e = refl

-- equivalent formulas are those that have the same truth values
pub equi-everywhere : (a b : Formula) → IsLetterless a → IsLetterless b → Valid GL (equi a b) ↔ ((n : ℕ) → holds_at a n ≡ holds_at b n)
equi-everywhere a b left right =
    let both = Valid-everywhere (equi a b) (both-IsLetterless a b left right) in (
      λ valid n. true-beq (holds_at a n) (holds_at b n) (both.0 valid n),
      λ same. both.1 (λ n. beq-true (holds_at a n) (holds_at b n) (same n)),
    )

-- formulas with the same truth values have the same trace
same_trace_of : (a b : Formula) → ((n : ℕ) → holds_at a n ≡ holds_at b n) → trace_of a ≡ trace_of b
same_trace_of a b same =
    let last = max (depth a) (depth b) in
    let left : depth a ≤ last = omega arith in
    let right : depth b ≤ last = omega arith in
    let rests : rest a ≡ rest b = holds_at-settled a (depth a) last (omega arith) left ∙ same last ∙ holds_at-settled b last (depth b) right (omega arith) in
    same_trace (trace_of a) (trace_of b) rests
    (sym (filter-heights_below (is_exception a) (depth a) last left (no_exception a))
    ∙ ap (λ (p : ℕ → Bool). filter p (heights_below last)) (λ i n. not (beq (same n i) (rests i)))
    ∙ filter-heights_below (is_exception b) (depth b) last right (no_exception b))

pub letterless_of-unique : (a b : Formula) → IsLetterless a → IsLetterless b → Valid GL (equi a b) ↔ (letterless_of a ≡ letterless_of b)
letterless_of-unique a b left right = (
  λ valid. ap form_of (same_trace_of a b ((equi-everywhere a b left right).0 valid)),
  λ e. (equi-everywhere a b left right).1 (λ n. sym (holds_at-letterless_of a n) ∙ ap (λ c. holds_at c n) e ∙ holds_at-letterless_of b n),
)
