-- How the outcome of a walk comes from those of its parts.
use Rattle.std.proofs.Common.{◌≡◌, ℕ, ◌+◌, suc, min, Bool, List, [], ◌∷◌, length, map, Option, None, Some, slice_get, refl, sym, ap, ◌∙◌, arith}
use Rattle.std.below.core.specs.declared.int.usize.TheConstants as usize
use Rattle.lw_formula.specs.declared.logic.Logic.{Logic}
use Rattle.lw_formula.specs.Formula.{Formula}
use Rattle.lw_formula.specs.Signed.{SignedSet}
use Rattle.lw_formula.specs.Components.{parts_of}
use Rattle.lw_pool.specs.declared.id.SignedId.{SignedId}
use Rattle.lw_pool.specs.Region.{IsLive, Grows, signed_at, is_marked}
use Rattle.lw_proof.specs.declared.rule.Rule.{Rule}
use Rattle.lw_proof.specs.declared.why.Why.{Why}
use Rattle.lw_proof.specs.Tree.{Tree, node, none, more, forest, subs_of, rule_of, principal_of, map_forest, lines, lines_all}
use Rattle.lw_proof.specs.System.{trees}
use Rattle.lw_proof.specs.Derivation.{premises}
use Rattle.lw_proof.specs.Break.{reason, or_else, at_step, break_from, breaks_from}
use Rattle.lw_proof.specs.Pooled.{proof_at, IsProofLive}
use Rattle.lw_check.specs.declared.walked.Walked.{Walked}
use Rattle.lw_check.specs.declared.walked.Walked.TheVariants.{Through, Broken}
use Rattle.lw_sets.specs.IdSets.{among, set_of, AreLive}
use Rattle.lw_check.specs.declared.premise.Left.{Left}
use Rattle.lw_check.specs.Private.LeftSets.{left_of, Leaves}
use Rattle.lw_check.specs.Private.ProofWalk.{AreCuts, TellsReason, outcome_of, Tells, TellsAll}
use Rattle.lw_pool.proofs.RegionGrowth.{Grows-trans}
use Rattle.lw_sets.proofs.GrownPools.{signed_grows, listed_grows}
use Rattle.lw_proof.proofs.FirstSubproofs.{each_sub, each_first, count_mapped, forest_mapped, lines_mapped, lines_first, no_member, one_member, two_members}

-- a step that keeps its rule leaves the breaks of the subproofs
kept_step : (cuts : SignedSet) (L : Logic) (ts : List Formula) (X : SignedSet) (Xs : List SignedSet) (t : Tree SignedId) (n : ℕ) →
    None ≡ reason trees cuts L X (rule_of t) (signed_at ts (principal_of t)) (length (subs_of t)) →
    premises trees L (rule_of t) (signed_at ts (principal_of t)) (parts_of (signed_at ts (principal_of t))) X ≡ Xs →
    break_from trees cuts L X n (proof_at ts t) ≡ breaks_from trees cuts L Xs (suc n) (forest (map (λ u. proof_at ts u) (subs_of t)))
kept_step cuts L ts X Xs (node r x f) n e p =
    ap (λ (k : ℕ). or_else (at_step n (reason trees cuts L X r (signed_at ts x) k)) (rest)) (count_mapped (signed_at ts) f)
    ∙ ap (λ (o : Option Why). or_else (at_step n o) (rest)) (sym e)
    ∙ (λ i. breaks_from trees cuts L (p i) (suc n) (forest_mapped (signed_at ts) f i))
  where
    rest : Option (ℕ × Why)
    rest = breaks_from trees cuts L (premises trees L r (signed_at ts x) (parts_of (signed_at ts x)) X) (suc n) (map_forest (signed_at ts) f)

-- a step that breaks its rule is the first break
broken_step : (cuts : SignedSet) (L : Logic) (ts : List Formula) (X : SignedSet) (t : Tree SignedId) (n : ℕ) (why : Why) →
    Some why ≡ reason trees cuts L X (rule_of t) (signed_at ts (principal_of t)) (length (subs_of t)) →
    break_from trees cuts L X n (proof_at ts t) ≡ Some (n, why)
broken_step cuts L ts X (node r x f) n why e =
    ap (λ (k : ℕ). or_else (at_step n (reason trees cuts L X r (signed_at ts x) k)) (breaks_from trees cuts L (premises trees L r (signed_at ts x) (parts_of (signed_at ts x)) X) (suc n) (map_forest (signed_at ts) f))) (count_mapped (signed_at ts) f)
    ∙ ap (λ (o : Option Why). or_else (at_step n o) (breaks_from trees cuts L (premises trees L r (signed_at ts x) (parts_of (signed_at ts x)) X) (suc n) (map_forest (signed_at ts) f))) (sym e)

module _ (L : Logic) (now : List Formula) (marks : List Bool) (xs : List SignedId) (t : Tree SignedId) (live : AreLive now xs) (proof_live : IsProofLive now t) where
  first_live : IsLive now (principal_of t).form
  first_live = each_first (λ (s : SignedId). IsLive now s.form) t proof_live

  -- the reason is the same in a later pool
  reason_grows : (o : Option Why) → TellsReason L now marks xs t o → (cuts : SignedSet) (ts : List Formula) → Grows now ts → AreCuts cuts ts marks t →
      o ≡ reason trees cuts L (set_of ts xs) (rule_of t) (signed_at ts (principal_of t)) (length (subs_of t))
  reason_grows o told cuts ts g k =
      let s : signed_at ts (principal_of t) ≡ signed_at now (principal_of t) = signed_grows now ts g (principal_of t) (first_live) in
      let m : is_marked marks (principal_of t).form.0 ≡ cuts (signed_at ts (principal_of t)) = each_first (λ (x : SignedId). is_marked marks x.form.0 ≡ cuts (signed_at ts x)) t k in
      told cuts (m ∙ ap cuts s)
      ∙ (λ i. reason trees cuts L (among (sym (listed_grows now ts g xs live) i)) (rule_of t) (sym s i) (length (subs_of t)))

  pub tells_refused : (step : ℕ) (why : Why) → TellsReason L now marks xs t (Some why) → Tells L now marks (λ ts. set_of ts xs) t step (Broken step why)
  tells_refused step why told cuts ts n g k e =
      (λ i. Broken (e i) why)
      ∙ ap (λ (b : Option (ℕ × Why)). outcome_of b (n + lines t)) (sym (broken_step cuts L ts (set_of ts xs) t n why (reason_grows (Some why) told cuts ts g k)))

  -- the step keeps its rule, and the subproofs are to close what is left
  pub tells_kept : (r : Rule) (x : SignedId) → r ≡ rule_of t → x ≡ principal_of t → (later : List Formula) (left : Left) (step next : ℕ) (outcome : Walked) → Grows now later →
      TellsReason L now marks xs t None → Leaves now r x left →
      ((n : ℕ) → step ≡ min n usize.MAX → next ≡ min (suc n) usize.MAX) →
      TellsAll L later marks (left_of L x left xs) t next outcome →
      Tells L later marks (λ ts. set_of ts xs) t step outcome
  tells_kept r x er ex later left step next outcome grown told sets count all cuts ts n g k e =
      all cuts ts (suc n) g k (count n e)
      ∙ (λ i. outcome_of (sym whole i) (same_end i))
    where
      since : Grows now ts
      since = Grows-trans now later ts grown g

      told_sets : premises trees L (rule_of t) (signed_at ts (principal_of t)) (parts_of (signed_at ts (principal_of t))) (set_of ts xs) ≡ left_of L x left xs ts
      told_sets =
          (λ i. premises trees L (sym er i) (signed_at ts (sym ex i)) (parts_of (signed_at ts (sym ex i))) (set_of ts xs))
          ∙ sets L ts since xs

      whole : break_from trees cuts L (set_of ts xs) n (proof_at ts t)
          ≡ breaks_from trees cuts L (left_of L x left xs ts) (suc n) (forest (map (λ u. proof_at ts u) (subs_of t)))
      whole = kept_step cuts L ts (set_of ts xs) (left_of L x left xs ts) t n (reason_grows None told cuts ts since k) told_sets

      same_end : suc n + lines_all (forest (subs_of t)) ≡ n + lines t
      same_end = let h = lines_first t in omega (arith, h)

-- the outcome for equal sets
pub tells_same : (L : Logic) (now : List Formula) (marks : List Bool) (X Y : List Formula → SignedSet) (t : Tree SignedId) (step : ℕ) (outcome : Walked) →
    ((ts : List Formula) → Grows now ts → X ts ≡ Y ts) → Tells L now marks X t step outcome → Tells L now marks Y t step outcome
tells_same L now marks X Y t step outcome same told cuts ts n g k e =
    told cuts ts n g k e ∙ ap (λ (Z : SignedSet). outcome_of (break_from trees cuts L Z n (proof_at ts t)) (n + lines t)) (same ts g)

or_else_none : (o : Option (ℕ × Why)) → or_else o None ≡ o
or_else_none None = refl
or_else_none (Some b) = refl

-- no set is left
pub tells_none : (L : Logic) (now : List Formula) (marks : List Bool) (t : Tree SignedId) (step : ℕ) → length (subs_of t) ≡ 0 → TellsAll L now marks (λ ts. []) t step (Through step)
tells_none L now marks t step count cuts ts n g k e =
    let m : n ≡ n + lines_all (forest (subs_of t)) = (let h = ap (λ (us : List (Tree SignedId)). lines_all (forest us)) (no_member (subs_of t) count) in omega (arith, h)) in
    (λ i. Through (e i)) ∙ ap (λ (j : ℕ). Through (min j usize.MAX)) m

-- one set is left
pub tells_one : (L : Logic) (now : List Formula) (marks : List Bool) (X : List Formula → SignedSet) (t u : Tree SignedId) (step : ℕ) (outcome : Walked) →
    length (subs_of t) ≡ 1 → slice_get (subs_of t) 0 ≡ Some u → Tells L now marks X u step outcome → TellsAll L now marks (λ ts. X ts ∷ []) t step outcome
tells_one L now marks X t u step outcome count sub told cuts ts n g k e =
    told cuts ts n g (each_sub (λ (x : SignedId). is_marked marks x.form.0 ≡ cuts (signed_at ts x)) t 0 u sub k) e
    ∙ (λ i. outcome_of (sym (or_else_none (break_from trees cuts L (X ts) n (proof_at ts u))) i) (same_end i))
    ∙ ap (λ (us : List (Tree SignedId)). outcome_of (breaks_from trees cuts L (X ts ∷ []) n (forest (map (λ v. proof_at ts v) us))) (n + lines_all (forest us))) (sym (one_member (subs_of t) u count sub))
  where
    same_end : n + lines u ≡ n + (lines u + 0)
    same_end = omega arith

went_through : (b : Option (ℕ × Why)) (m next : ℕ) → Through next ≡ outcome_of b m → (b ≡ None) × (next ≡ min m usize.MAX)
went_through None m next e = (refl, cc)
went_through (Some b) m next e = absurd (cc)

stopped : (b c : Option (ℕ × Why)) (m l step : ℕ) (why : Why) → Broken step why ≡ outcome_of b m → Broken step why ≡ outcome_of (or_else b c) l
stopped None c m l step why e = absurd (cc)
stopped (Some b) c m l step why e = e

module _ (L : Logic) (marks : List Bool) (X Y : List Formula → SignedSet) (t u v : Tree SignedId) (count : length (subs_of t) ≡ 2) (first : slice_get (subs_of t) 0 ≡ Some u) where
  -- two sets are left, and a step breaks its rule on the way to the first
  pub tells_broken : (now : List Formula) (step at : ℕ) (why : Why) → slice_get (subs_of t) 1 ≡ Some v → Tells L now marks X u step (Broken at why) → TellsAll L now marks (λ ts. X ts ∷ Y ts ∷ []) t step (Broken at why)
  tells_broken now step at why second told cuts ts n g k e =
      stopped (break_from trees cuts L (X ts) n (proof_at ts u)) (breaks_from trees cuts L (Y ts ∷ []) (n + lines (proof_at ts u)) (more (proof_at ts v) none))
      (n + lines u) (n + (lines u + (lines v + 0))) at why
      (told cuts ts n g (each_sub (λ (x : SignedId). is_marked marks x.form.0 ≡ cuts (signed_at ts x)) t 0 u first k) e)
      ∙ ap (λ (us : List (Tree SignedId)). outcome_of (breaks_from trees cuts L (X ts ∷ Y ts ∷ []) n (forest (map (λ w. proof_at ts w) us))) (n + lines_all (forest us))) (sym (two_members (subs_of t) u v count first second))

  -- both subproofs are walked over
  pub tells_both : (mid now : List Formula) (step next : ℕ) (outcome : Walked) → Grows mid now → slice_get (subs_of t) 1 ≡ Some v →
      Tells L mid marks X u step (Through next) → Tells L now marks Y v next outcome → TellsAll L now marks (λ ts. X ts ∷ Y ts ∷ []) t step outcome
  tells_both mid now step next outcome grown second one other cuts ts n g k e =
      other cuts ts (n + lines u) g (each_sub (λ (x : SignedId). is_marked marks x.form.0 ≡ cuts (signed_at ts x)) t 1 v second k) (through.1)
      ∙ (λ i. outcome_of (join i) (same_end i))
      ∙ ap (λ (us : List (Tree SignedId)). outcome_of (breaks_from trees cuts L (X ts ∷ Y ts ∷ []) n (forest (map (λ w. proof_at ts w) us))) (n + lines_all (forest us))) (sym (two_members (subs_of t) u v count first second))
    where
      through : (break_from trees cuts L (X ts) n (proof_at ts u) ≡ None) × (next ≡ min (n + lines u) usize.MAX)
      through =
          went_through (break_from trees cuts L (X ts) n (proof_at ts u)) (n + lines u) next
          (one cuts ts n (Grows-trans mid now ts grown g) (each_sub (λ (x : SignedId). is_marked marks x.form.0 ≡ cuts (signed_at ts x)) t 0 u first k) e)

      join : break_from trees cuts L (Y ts) (n + lines u) (proof_at ts v)
          ≡ or_else (break_from trees cuts L (X ts) n (proof_at ts u)) (or_else (break_from trees cuts L (Y ts) (n + lines (proof_at ts u)) (proof_at ts v)) None)
      join =
          sym (or_else_none (break_from trees cuts L (Y ts) (n + lines u) (proof_at ts v)))
          ∙ (λ i. or_else (sym (through.0) i) (or_else (break_from trees cuts L (Y ts) (n + sym (lines_mapped (signed_at ts) u) i) (proof_at ts v)) None))

      same_end : (n + lines u) + lines v ≡ n + (lines u + (lines v + 0))
      same_end = omega arith
