-- There is a first break exactly where the proof doesn't close its set.
use Rattle.std.proofs.Common.{◌≡◌, ℕ, ◌+◌, suc, ◌==◌, Bool, true, false, cond, List, [], ◌∷◌, length, Option, Some, None, refl, sym, arith, eq-eqb, ◌∙◌}
use Rattle.std.specs.Bool.{IsTrue}
use Rattle.std.proofs.lemmas.Bool.{false≢true, and_parts, and_from, eqb-true}
use Rattle.std.proofs.lemmas.Option.{none-some}
use Rattle.lw_formula.specs.declared.logic.Logic.{Logic}
use Rattle.lw_formula.specs.declared.sign.Sign.TheVariants.{T}
use Rattle.lw_formula.specs.declared.parts.Parts.{Parts}
use Rattle.lw_proof.specs.declared.rule.Rule.{Rule}
use Rattle.lw_proof.specs.declared.why.Why.{Why}
use Rattle.lw_proof.specs.Tree.{Tree, Forest, node, none, more, lines, count_of}
use Rattle.lw_proof.specs.System.{Set, System, same_sign, trees}
use Rattle.lw_proof.specs.Derivation.{is_one, is_two, is_nu, is_pi, is_modal_part, premises, Applies, Closed, ClosedAll, goal_cuts, only}
use Rattle.lw_proof.specs.Break.{arity, in_logic, fits, present, in_goal, reason, or_else, at_step, break_from, breaks_from}
use Rattle.lw_proof.specs.Laws.{FirstBreakIsExact}
use Rattle.lw_proof.proofs.SignedMeaning.{same_sign-Decides}
use Rattle.lw_formula.specs.declared.sign.Sign.TheVariants.{F}

-- a test that gives a reason where it fails
passed : (b : Bool) (o : Option Why) (why : Why) → cond b o (Some why) ≡ None → (b ≡ true) × (o ≡ None)
passed true o why e = (refl, e)
passed false o why e = absurd (none-some why (sym e))

pass : (b : Bool) (o : Option Why) (why : Why) → b ≡ true → o ≡ None → cond b o (Some why) ≡ None
pass true o why t e = e
pass false o why t e = absurd (false≢true t)

neither : {X : Type 0} (x y : Option X) → or_else x y ≡ None → (x ≡ None) × (y ≡ None)
neither None y e = (refl, e)
neither (Some x) y e = absurd (none-some x (sym e))

none_of_both : {X : Type 0} (x y : Option X) → x ≡ None → y ≡ None → or_else x y ≡ None
none_of_both None y p q = q
none_of_both (Some x) y p q = absurd (none-some x (sym p))

no_reason : (k : ℕ) (o : Option Why) → at_step k o ≡ None → o ≡ None
no_reason k None e = refl
no_reason k (Some why) e = absurd (none-some (k, why) (sym e))

no_step : (k : ℕ) (o : Option Why) → o ≡ None → at_step k o ≡ None
no_step k None e = refl
no_step k (Some why) e = absurd (none-some why (sym e))

-- what comes of the principal is what the rule takes
abbrev takes : {I : Type 0} → Rule → Parts I → Bool
takes Rule.Close p = true
takes Rule.Absurd p = true
takes Rule.One p = is_one p
takes Rule.Two p = is_two p
takes Rule.Refl p = is_nu p
takes Rule.Step p = is_pi p
takes Rule.Serial p = is_nu p
takes Rule.Cut p = true

module _ {I : Type 0} (S : System I) where
  -- all five tests of a step are passed
  record Fine (cuts : Set I) (L : Logic) (X : Set I) (r : Rule) (s : I) (n : ℕ) : Type 0 where
    known : IsTrue (in_logic L r)
    shaped : IsTrue (fits S r s)
    counted : n ≡ arity r
    there : IsTrue (present S X r s)
    allowed : IsTrue (in_goal S cuts r s)

  module _ (cuts : Set I) (L : Logic) where
    fine_from : (X : Set I) (r : Rule) (s : I) (n : ℕ) → reason S cuts L X r s n ≡ None → Fine cuts L X r s n
    fine_from X r s n e =
        let e1 = passed (in_logic L r) _ Why.Logic e in
        let e2 = passed (fits S r s) _ Why.Shape e1.1 in
        let e3 = passed (n == arity r) _ Why.Arity e2.1 in
        let e4 = passed (present S X r s) _ Why.Missing e3.1 in
        let e5 = passed (in_goal S cuts r s) _ Why.Goal e4.1 in
        record { known = e1.0; shaped = e2.0; counted = eqb-true n (arity r) e3.0; there = e4.0; allowed = e5.0 }

    from_fine : (X : Set I) (r : Rule) (s : I) (n : ℕ) → Fine cuts L X r s n → reason S cuts L X r s n ≡ None
    from_fine X r s n f =
        pass (in_logic L r) _ Why.Logic f.known
        (pass (fits S r s) _ Why.Shape f.shaped
        (pass (n == arity r) _ Why.Arity (eq-eqb n (arity r) f.counted)
        (pass (present S X r s) _ Why.Missing f.there
        (pass (in_goal S cuts r s) _ Why.Goal f.allowed refl))))

    is_t : (s : I) → same_sign (S.sign s) T ≡ true → S.sign s ≡ T
    is_t s e = (same_sign-Decides (S.sign s) T).0 e

    t_is : (s : I) → S.sign s ≡ T → same_sign (S.sign s) T ≡ true
    t_is s e = (same_sign-Decides (S.sign s) T).1 e

    applies_from : (X : Set I) (r : Rule) (s : I) (n : ℕ) → Fine cuts L X r s n → Applies S cuts L X r s
    applies_from X Rule.Close s n f = let both = and_parts (X s) (X (S.flip s)) f.there in (is_t s f.shaped, both.0, both.1)
    applies_from X Rule.Absurd s n f = (f.shaped, f.there)
    applies_from X Rule.One s n f = (f.shaped, f.there)
    applies_from X Rule.Two s n f = (f.shaped, f.there)
    applies_from X Rule.Refl s n f = (f.known, f.shaped, f.there)
    applies_from X Rule.Step s n f = (f.shaped, f.there)
    applies_from X Rule.Serial s n f = (f.known, f.shaped, f.there)
    applies_from X Rule.Cut s n f =
        let both = and_parts (same_sign (S.sign s) T) (is_modal_part (S.parts s)) f.shaped in
        (f.known, is_t s both.0, both.1, f.allowed)

    fine_where : (X : Set I) (r : Rule) (s : I) (n : ℕ) → Applies S cuts L X r s → n ≡ arity r → Fine cuts L X r s n
    fine_where X Rule.Close s n a e = record { known = refl; shaped = t_is s a.0; counted = e; there = and_from (X s) (X (S.flip s)) a.1 a.2; allowed = refl }
    fine_where X Rule.Absurd s n a e = record { known = refl; shaped = a.0; counted = e; there = a.1; allowed = refl }
    fine_where X Rule.One s n a e = record { known = refl; shaped = a.0; counted = e; there = a.1; allowed = refl }
    fine_where X Rule.Two s n a e = record { known = refl; shaped = a.0; counted = e; there = a.1; allowed = refl }
    fine_where X Rule.Refl s n a e = record { known = a.0; shaped = a.1; counted = e; there = a.2; allowed = refl }
    fine_where X Rule.Step s n a e = record { known = refl; shaped = a.0; counted = e; there = a.1; allowed = refl }
    fine_where X Rule.Serial s n a e = record { known = a.0; shaped = a.1; counted = e; there = a.2; allowed = refl }
    fine_where X Rule.Cut s n a e =
        record { known = a.0; shaped = and_from (same_sign (S.sign s) T) (is_modal_part (S.parts s)) (t_is s a.1) a.2; counted = e; there = refl; allowed = a.3 }

    -- a principal that fits leaves as many premises as its rule has
    premises_count : (r : Rule) (s : I) (p : Parts I) (X : Set I) → takes r p ≡ true → length (premises S L r s p X) ≡ arity r
    premises_count Rule.Close s p X e = refl
    premises_count Rule.Absurd s p X e = refl
    premises_count Rule.One s (Parts.One c d) X e = refl
    premises_count Rule.Two s (Parts.Two a b) X e = refl
    premises_count Rule.Refl s (Parts.Nu c) X e = refl
    premises_count Rule.Step s (Parts.Pi c) X e = refl
    premises_count Rule.Serial s (Parts.Nu c) X e = refl
    premises_count Rule.Cut s p X e = refl
    premises_count _ s p X e = absurd (false≢true e)

    taken : (X : Set I) (r : Rule) (s : I) → Applies S cuts L X r s → takes r (S.parts s) ≡ true
    taken X Rule.Close s a = refl
    taken X Rule.Absurd s a = refl
    taken X Rule.One s a = a.0
    taken X Rule.Two s a = a.0
    taken X Rule.Refl s a = a.1
    taken X Rule.Step s a = a.0
    taken X Rule.Serial s a = a.1
    taken X Rule.Cut s a = refl

    -- as many subproofs as sets
    same_count : (Xs : List (Set I)) (ts : Forest I) → ClosedAll S cuts L Xs ts → count_of ts ≡ length Xs
    same_count [] none c = refl
    same_count [] (more t ts) c = absurd c
    same_count (X ∷ Xs) none c = absurd c
    same_count (X ∷ Xs) (more t ts) c = let rest = same_count Xs ts c.1 in omega arith

    mutual
      pub closed_from : (t : Tree I) (X : Set I) (k : ℕ) → break_from S cuts L X k t ≡ None → Closed S cuts L X t
      closed_from (node r s ts) X k e =
          let both = neither (at_step k (reason S cuts L X r s (count_of ts))) (breaks_from S cuts L (premises S L r s (S.parts s) X) (suc k) ts) e in
          let fine = fine_from X r s (count_of ts) (no_reason k _ both.0) in
          let applies = applies_from X r s (count_of ts) fine in
          let count = premises_count r s (S.parts s) X (taken X r s applies) in
          (applies, all_from ts (premises S L r s (S.parts s) X) (suc k) (fine.counted ∙ sym count) both.1)

      all_from : (ts : Forest I) (Xs : List (Set I)) (k : ℕ) → count_of ts ≡ length Xs → breaks_from S cuts L Xs k ts ≡ None → ClosedAll S cuts L Xs ts
      all_from none [] k n e = tt
      all_from none (X ∷ Xs) k n e = let bad : ⊥ = omega arith in absurd bad
      all_from (more t ts) [] k n e = let bad : ⊥ = omega arith in absurd bad
      all_from (more t ts) (X ∷ Xs) k n e =
          let both = neither (break_from S cuts L X k t) (breaks_from S cuts L Xs (k + lines t) ts) e in
          (closed_from t X k both.0, all_from ts Xs (k + lines t) (omega arith) both.1)

    mutual
      pub from_closed : (t : Tree I) (X : Set I) (k : ℕ) → Closed S cuts L X t → break_from S cuts L X k t ≡ None
      from_closed (node r s ts) X k c =
          let count = premises_count r s (S.parts s) X (taken X r s c.0) in
          let fine = fine_where X r s (count_of ts) c.0 (same_count (premises S L r s (S.parts s) X) ts c.1 ∙ count) in
          none_of_both _ _ (no_step k _ (from_fine X r s (count_of ts) fine)) (from_all ts (premises S L r s (S.parts s) X) (suc k) c.1)

      from_all : (ts : Forest I) (Xs : List (Set I)) (k : ℕ) → ClosedAll S cuts L Xs ts → breaks_from S cuts L Xs k ts ≡ None
      from_all none [] k c = refl
      from_all none (X ∷ Xs) k c = refl
      from_all (more t ts) [] k c = refl
      from_all (more t ts) (X ∷ Xs) k c = none_of_both _ _ (from_closed t X k c.0) (from_all ts Xs (k + lines t) c.1)

pub break_is_exact : FirstBreakIsExact
break_is_exact L proof goal = (
  closed_from trees (goal_cuts goal) L proof (only (F, goal)) 1,
  from_closed trees (goal_cuts goal) L proof (only (F, goal)) 1,
)
