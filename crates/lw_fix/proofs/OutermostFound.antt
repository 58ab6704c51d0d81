-- The ids that are found are those of the outermost modal subformulas with p.
use Rattle.std.proofs.Common.{◌≡◌, ℕ, ◌+◌, ◌<◌, ⊎_elim, Bool, true, false, ◌&&◌, List, [], ◌∷◌, ◌++◌, length, map, if◌then◌else◌, refl, sym, ap, subst, ◌∙◌, arith}
use Rattle.std.specs.List.{Contains}
use Rattle.std.proofs.lemmas.Bool.{false≢true, cases_eq}
use Rattle.std.proofs.lemmas.List.{length-map}
use Rattle.std.proofs.lemmas.List.Elements.{Contains-append_left, Contains-push_cases, Contains-append_right}
use Rattle.lw_formula.specs.Formula.{Formula, letter, falsum, verum, neg, conj, disj, impl, equi, nec, poss, is_modal}
use Rattle.lw_formula.specs.FiniteModel.{AreDistinct}
use Rattle.lw_formula.specs.Variables.{Occurs}
use Rattle.lw_formula.proofs.ListMembers.{Contains-nil, Contains-head, Contains-tail, Contains-cons_cases, AreDistinct-nil, AreDistinct-cons, AreDistinct-head, AreDistinct-tail, AreDistinct-push}
use Rattle.lw_pool.specs.declared.id.FormId.{FormId}
use Rattle.lw_pool.specs.Region.{tree_at, IsLive, AreIdsExact, is_marked}
use Rattle.lw_pool.proofs.EqualLengths.{length-same_members}
use Rattle.lw_pool.proofs.SubformulaMarks.{within}
use Rattle.lw_fix.specs.Outermost.{IsOutermost, has_letter, outermost}
use Rattle.lw_fix.specs.Private.OutermostIds.{AreOutermost, IsLetterTable, AreBareMarks, is_wanted}
use Rattle.lw_fix.proofs.OutermostFormulas.{has_letter-Decides, outermost-Contains, outermost-AreDistinct, outermost_is}

and_left : (x y : Bool) → (x && y) ≡ true → x ≡ true
and_left true y e = refl
and_left false y e = absurd (false≢true e)

and_right : (x y : Bool) → (x && y) ≡ true → y ≡ true
and_right true y e = e
and_right false y e = absurd (false≢true e)

and_both : (x y : Bool) → x ≡ true → y ≡ true → (x && y) ≡ true
and_both true y e f = f
and_both false y e f = absurd (false≢true e)

-- the wanted ids below i, each once
pub record AreFoundBelow (i : ℕ) (ts : List Formula) (marks letters : List Bool) (ids : List FormId) : Type 0 where
  pub sound : (b : FormId) → Contains ids b → (b.0 < i) × (is_wanted ts marks letters b ≡ true)
  pub each : (b : FormId) → b.0 < i → is_wanted ts marks letters b ≡ true → Contains ids b
  pub distinct : AreDistinct ids

pub found_none : (ts : List Formula) (marks letters : List Bool) → AreFoundBelow 0 ts marks letters []
found_none ts marks letters = record {
  sound = λ b c. absurd (Contains-nil b c);
  each = λ b l w. absurd (omega arith);
  distinct = AreDistinct-nil;
}

pub found_step : (ts : List Formula) (marks letters : List Bool) (ids : List FormId) (at : FormId) (t : Bool) → t ≡ is_wanted ts marks letters at →
    AreFoundBelow at.0 ts marks letters ids → AreFoundBelow (at.0 + 1) ts marks letters (if t then ids ++ at ∷ [] else ids)
found_step ts marks letters ids at true e h = record {
  sound = λ b c. ⊎_elim
      (λ old. let s = h.sound b old in (omega (arith, s.0), s.1))
      (λ own. subst (λ k. (k.0 < at.0 + 1) × (is_wanted ts marks letters k ≡ true)) own (omega arith, sym e))
      (Contains-push_cases ids at b c);
  each = λ b l w. ⊎_elim
      (λ same. subst (λ (k : ℕ). Contains (ids ++ at ∷ []) (record { 0 = k })) (sym same) (Contains-append_right ids (at ∷ []) at (Contains-head at [])))
      (λ other. Contains-append_left ids (at ∷ []) b (h.each b (omega (arith, other)) w))
      (cases_eq b.0 at.0);
  distinct = AreDistinct-push ids at h.distinct (λ c. let s = h.sound at c in let l : at.0 < at.0 = s.0 in omega (arith, l));
}
found_step ts marks letters ids at false e h = record {
  sound = λ b c. let s = h.sound b c in (omega (arith, s.0), s.1);
  each = λ b l w. ⊎_elim
      (λ same. absurd (false≢true (e ∙ subst (λ (k : ℕ). is_wanted ts marks letters (record { 0 = k }) ≡ true) same w)))
      (λ other. h.each b (omega (arith, other)) w)
      (cases_eq b.0 at.0);
  distinct = h.distinct;
}

pub Contains-map : {X Y : Type 0} (f : X → Y) (xs : List X) (x : X) → Contains xs x → Contains (map f xs) (f x)
Contains-map f [] x h = absurd (Contains-nil x h)
Contains-map f (y ∷ ys) x h =
    ⊎_elim (λ e. subst (λ z. Contains (f y ∷ map f ys) (f z)) e (Contains-head (f y) (map f ys))) (λ r. Contains-tail (f y) (map f ys) (f x) (Contains-map f ys x r)) (Contains-cons_cases y ys x h)

pub Contains-map_cases : {X Y : Type 0} (f : X → Y) (xs : List X) (y : Y) → Contains (map f xs) y → (x : X) × Contains xs x × (f x ≡ y)
Contains-map_cases f [] y h = absurd (Contains-nil y h)
Contains-map_cases f (x ∷ xs) y h =
    ⊎_elim (λ e. (x, Contains-head x xs, e)) (λ r. let t = Contains-map_cases f xs y r in (t.0, Contains-tail x xs t.0 t.1, t.2)) (Contains-cons_cases (f x) (map f xs) y h)

trees-AreDistinct : (ts : List Formula) → AreIdsExact ts → (ids : List FormId) → ((b : FormId) → Contains ids b → IsLive ts b) → AreDistinct ids → AreDistinct (map (tree_at ts) ids)
trees-AreDistinct ts x [] live d = AreDistinct-nil
trees-AreDistinct ts x (b ∷ ids) live d =
    AreDistinct-cons (tree_at ts b) (map (tree_at ts) ids)
    (λ h.
    let t = Contains-map_cases (tree_at ts) ids (tree_at ts b) h in
    AreDistinct-head b ids d (subst (Contains ids) (x t.0 b (live t.0 (Contains-tail b ids t.0 t.1)) (live b (Contains-head b ids)) t.2) t.1))
    (trees-AreDistinct ts x ids (λ c h. live c (Contains-tail b ids c h)) (AreDistinct-tail b ids d))

-- a formula that begins with a modality is its own outermost modal subformula
modal_own : (a : Formula) → is_modal a ≡ true → IsOutermost a a
modal_own (letter p) e = absurd (false≢true e)
modal_own falsum e = absurd (false≢true e)
modal_own verum e = absurd (false≢true e)
modal_own (neg a) e = absurd (false≢true e)
modal_own (conj a b) e = absurd (false≢true e)
modal_own (disj a b) e = absurd (false≢true e)
modal_own (impl a b) e = absurd (false≢true e)
modal_own (equi a b) e = absurd (false≢true e)
modal_own (nec a) e = refl
modal_own (poss a) e = refl

pub found_done : (ts : List Formula) (p : List ℕ) (id : FormId) (marks letters : List Bool) (ids : List FormId) (n : ℕ) → AreIdsExact ts → IsLive ts id → n ≡ length marks →
    AreBareMarks ts id marks → IsLetterTable ts p (length marks) letters → AreFoundBelow n ts marks letters ids → AreOutermost ts p (tree_at ts id) ids
found_done ts p id marks letters ids n x v all bare table h = record {
  sound = sound;
  each = each;
  count =
      sym (length-map ids (tree_at ts))
      ∙ length-same_members (map (tree_at ts) ids) (outermost p (tree_at ts id))
      (trees-AreDistinct ts x ids (λ b c. (sound b c).0) h.distinct) (outermost-AreDistinct p (tree_at ts id))
      (λ m c. let t = Contains-map_cases (tree_at ts) ids m c in subst (Contains (outermost p (tree_at ts id))) t.2 (let s = sound t.0 t.1 in (outermost-Contains p (tree_at ts id) (tree_at ts t.0)).1 (s.1, s.2)))
      (λ m c.
      let s = (outermost-Contains p (tree_at ts id) m).0 c in
      let t = each m s.0 s.1 in
      subst (Contains (map (tree_at ts) ids)) t.2 (Contains-map (tree_at ts) ids t.0 t.1));
}
  where
    sound : (b : FormId) → Contains ids b → IsLive ts b × IsOutermost (tree_at ts b) (tree_at ts id) × Occurs p (tree_at ts b)
    sound b c =
        let s = h.sound b c in
        let tables = and_left (is_marked marks b.0 && is_marked letters b.0) (is_modal (tree_at ts b)) s.1 in
        let modal = and_right (is_marked marks b.0 && is_marked letters b.0) (is_modal (tree_at ts b)) s.1 in
        let below : b.0 < length marks = omega (arith, s.0, all) in (
          omega (arith, s.0, all, bare.long),
          bare.sound b (tree_at ts b) (and_left (is_marked marks b.0) (is_marked letters b.0) tables) (modal_own (tree_at ts b) modal),
          (has_letter-Decides p (tree_at ts b)).0 (sym (table.right b false below) ∙ and_right (is_marked marks b.0) (is_marked letters b.0) tables),
        )

    each : (m : Formula) → IsOutermost m (tree_at ts id) → Occurs p m → (b : FormId) × Contains ids b × (tree_at ts b ≡ m)
    each m o occurs =
        let t = bare.each m o in
        let below : t.0.0 < length marks = within marks t.0.0 t.1 in
        let modal : is_modal m ≡ true = outermost_is (λ k. is_modal k ≡ true) (tree_at ts id) m o (λ c. refl) (λ c. refl) in
        let has : has_letter p (tree_at ts t.0) ≡ true = ap (has_letter p) t.2 ∙ (has_letter-Decides p m).1 occurs in (
          t.0,
          h.each t.0 (omega (arith, below, all))
              (and_both (is_marked marks t.0.0 && is_marked letters t.0.0) (is_modal (tree_at ts t.0))
              (and_both (is_marked marks t.0.0) (is_marked letters t.0.0) t.1 (table.right t.0 false below ∙ has)) (ap is_modal t.2 ∙ modal)),
          t.2,
        )
