-- Proofs that use some items of a set alone, and what a rule below them uses.
use Rattle.std.proofs.Common.{◌≡◌, ℕ, zero, suc, ◌<◌, Bool, true, false, not, ◌||◌, List, [], ◌∷◌, eqb, refl, sym, ap, subst, inl, inr}
use Rattle.std.specs.List.{list_any}
use Rattle.std.proofs.lemmas.Bool.{cases_Bool, or_cases, or_parts, or_left, or_right, and_parts, and_from, both_ways, eq-eqb, eqb-true, not-true, false_from_ne_true, not_from_false}
use Rattle.lw_formula.specs.declared.parts.Parts.{Parts}
use Rattle.lw_pool.specs.declared.id.SignedId.{SignedId}
use Rattle.lw_proof.specs.declared.rule.Rule.{Rule}
use Rattle.lw_proof.specs.Tree.{Tree, Forest, node, none, more}
use Rattle.lw_proof.specs.System.{Set, IsWithin}
use Rattle.lw_proof.specs.Derivation.{side, premises, Applies, ClosedAll}
use Rattle.lw_proof.specs.Lean.{HasNew, AllHaveNew, Gains, Grows, GrowAll}
use Rattle.lw_proof.proofs.LargerSets.{AreWithin, premises_within, closed_within}
use Rattle.lw_closure.specs.Table.{Table, item_count, item_at, flip_item, entry_at}
use Rattle.lw_closure.specs.Items.{any_below, items, cuts, ItemDerives}
use Rattle.lw_sat.specs.Sets.{among, adding, without, either, AreBelow, HasEach}
use Rattle.lw_sat.specs.Closing.{Closes, Rests}
use Rattle.lw_sat.specs.Moves.{needed, Moves}

any_within : (f g : ℕ → Bool) → ((j : ℕ) → f j ≡ true → g j ≡ true) → (n : ℕ) → any_below f n ≡ true → any_below g n ≡ true
any_within f g h zero e = e
any_within f g h (suc n) e =
    elim (or_cases (f n) (any_below f n) e) [ inl a ↦ or_left (g n) (any_below g n) (h n a) | inr b ↦ or_right (g n) (any_below g n) (any_within f g h n b) ]

pub adding_in : (cs : List ℕ) (X : Set ℕ) (i : ℕ) → among cs i ≡ true → adding cs X i ≡ true
adding_in cs X i e = or_left (among cs i) (X i) e

pub adding_old : (cs : List ℕ) (X : Set ℕ) → IsWithin X (adding cs X)
adding_old cs X i e = or_right (among cs i) (X i) e

-- what a member of the list that the set has comes to
pub each_in : (cs : List ℕ) (X : Set ℕ) → HasEach cs X → (i : ℕ) → among cs i ≡ true → X i ≡ true
each_in [] X h i e = absurd (both_ways false refl e)
each_in (c ∷ cs) X h i e =
    elim (or_cases (eqb c i) (among cs i) e) [ inl a ↦ subst (λ k. X k ≡ true) (eqb-true c i a) h.0 | inr b ↦ each_in cs X h.1 i b ]

each_within : (cs : List ℕ) (X Y : Set ℕ) → IsWithin X Y → HasEach cs X → HasEach cs Y
each_within [] X Y h e = tt
each_within (c ∷ cs) X Y h e = (h c e.0, each_within cs X Y h e.1)

-- a list's members are in the set that has them added
pub each_added : (cs : List ℕ) (X : Set ℕ) → HasEach cs (adding cs X)
each_added [] X = tt
each_added (c ∷ cs) X = (
  or_left (eqb c c || among cs c) (X c) (or_left (eqb c c) (among cs c) (eq-eqb c c refl)),
  each_within cs (adding cs X) (adding (c ∷ cs) X) wider (each_added cs X),
) where
  wider : IsWithin (adding cs X) (adding (c ∷ cs) X)
  wider i e = elim (or_cases (among cs i) (X i) e) [
    | inl a ↦ or_left (eqb c i || among cs i) (X i) (or_right (eqb c i) (among cs i) a)
    | inr b ↦ or_right (eqb c i || among cs i) (X i) b
  ]

-- what is in U is in cs, or left when these are taken out
without_covers : (cs : List ℕ) (U Y : Set ℕ) → IsWithin (without cs U) Y → IsWithin U (adding cs Y)
without_covers cs U Y h i e =
    elim (cases_Bool (among cs i)) [
      | inl a ↦ or_left (among cs i) (Y i) a
      | inr b ↦ or_right (among cs i) (Y i) (h i (and_from (not (among cs i)) (U i) (not_from_false (among cs i) b) e))
    ]

without_within : (cs : List ℕ) (U X : Set ℕ) → IsWithin U (adding cs X) → IsWithin (without cs U) X
without_within cs U X h i e =
    let both = and_parts (not (among cs i)) (U i) e in
    elim (or_cases (among cs i) (X i) (h i both.1)) [ inl a ↦ absurd (both_ways (among cs i) (not-true (among cs i) both.0) a) | inr b ↦ b ]

-- a member of the list is below what all are below
pub below_each : (n : ℕ) (cs : List ℕ) → AreBelow n cs → (i : ℕ) → among cs i ≡ true → i < n
below_each n [] h i e = absurd (both_ways false refl e)
below_each n (c ∷ cs) h i e = elim (or_cases (eqb c i) (among cs i) e) [ inl a ↦ subst (λ k. k < n) (eqb-true c i a) h.0 | inr b ↦ below_each n cs h.1 i b ]

-- what is new is one of those that were added
pub new_below : (n : ℕ) (cs : List ℕ) (X : Set ℕ) → AreBelow n cs → HasNew X (adding cs X) → (s : ℕ) × (s < n) × (X s ≡ false) × (adding cs X s ≡ true)
new_below n cs X h (s, there, out) =
    (s, elim (or_cases (among cs s) (X s) there) [ inl a ↦ below_each n cs h s a | inr b ↦ absurd (out b) ], false_from_ne_true (X s) out, there)

-- none of these is used
pub none_used : (U : Set ℕ) (cs : List ℕ) → list_any U cs ≡ false → (i : ℕ) → among cs i ≡ true → U i ≡ false
none_used U [] e i a = absurd (both_ways false refl a)
none_used U (c ∷ cs) e i a =
    let parts = or_parts (U c) (list_any U cs) e in
    elim (or_cases (eqb c i) (among cs i) a) [ inl h ↦ subst (λ k. U k ≡ false) (eqb-true c i h) parts.0 | inr h ↦ none_used U cs parts.1 i h ]

new_less : (cs : List ℕ) (X Y : Set ℕ) → IsWithin X Y → HasNew Y (adding cs Y) → HasNew X (adding cs X)
new_less cs X Y h (s, there, out) =
    (s, elim (or_cases (among cs s) (Y s) there) [ inl a ↦ or_left (among cs s) (X s) a | inr b ↦ absurd (out b) ], λ e. out (h s e))

gains_any : (r : Rule) (X : Set ℕ) (Ys : List (Set ℕ)) → AllHaveNew X Ys → Gains r X Ys
gains_any Rule.Step X Ys h = tt
gains_any Rule.Serial X Ys h = tt
gains_any _ X Ys h = h

module _ (t : Table) where
  under_within : (X Y : Set ℕ) → IsWithin X Y → IsWithin ((items t).under X) ((items t).under Y)
  under_within X Y h i e = any_within _ _ (λ j both. let p = and_parts (X j) _ both in and_from (Y j) _ (h j p.0) p.1) (item_count t) e

  gains_less : (r : Rule) (s : ℕ) (p : Parts ℕ) (X Y : Set ℕ) → IsWithin X Y → Gains r Y (premises (items t) t.logic r s p Y) → Gains r X (premises (items t) t.logic r s p X)
  gains_less Rule.One s (Parts.One c d) X Y h g = (new_less (side c d) X Y h g.0, tt)
  gains_less Rule.Two s (Parts.Two a b) X Y h g = (new_less (side a.0 a.1) X Y h g.0, (new_less (side b.0 b.1) X Y h g.1.0, tt))
  gains_less Rule.Refl s (Parts.Nu c) X Y h g = (new_less (c ∷ []) X Y h g.0, tt)
  gains_less Rule.Cut s p X Y h g = (new_less (s ∷ []) X Y h g.0, (new_less (flip_item s ∷ []) X Y h g.1.0, tt))
  gains_less _ s p X Y h g = tt

  -- what grows from a set grows from each smaller one
  mutual
    pub grows_less : (p : Tree ℕ) (X Y : Set ℕ) → IsWithin X Y → Grows (items t) t.logic Y p → Grows (items t) t.logic X p
    grows_less (node r s ps) X Y h g = (
      gains_less r s (entry_at t s).parts X Y h g.0,
      all_less ps (premises (items t) t.logic r s (entry_at t s).parts X) (premises (items t) t.logic r s (entry_at t s).parts Y) (premises_within (items t) under_within t.logic r s (entry_at t s).parts X Y h) g.1,
    )

    all_less : (ps : Forest ℕ) (Xs Ys : List (Set ℕ)) → AreWithin Xs Ys → GrowAll (items t) t.logic Ys ps → GrowAll (items t) t.logic Xs ps
    all_less none [] Ys h g = tt
    all_less none (X ∷ Xs) Ys h g = tt
    all_less (more p ps) [] Ys h g = tt
    all_less (more p ps) (X ∷ Xs) [] h g = absurd h
    all_less (more p ps) (X ∷ Xs) (Y ∷ Ys) h g = (grows_less p X Y h.0 g.0, all_less ps Xs Ys h.1 g.1)

  pub closed_more : (p : Tree ℕ) (X Y : Set ℕ) → IsWithin X Y → ItemDerives t X p → ItemDerives t Y p
  closed_more p X Y h c = closed_within (items t) under_within (cuts t) t.logic p X Y h c

  -- the same used items and the same proof
  pub rests_as : (U V X : Set ℕ) (p q : Tree SignedId) → U ≡ V → p ≡ q → Rests t V X q → Rests t U X p
  rests_as U V X p q e f r = subst (λ W. Rests t W X p) (sym e) (subst (λ r. Rests t V X r) (sym f) r)

  -- what rests on some items closes the set
  pub rests_closes : (U X : Set ℕ) (p : Tree SignedId) → Rests t U X p → Closes t X p
  rests_closes U X p r = record { tree = r.tree; named = r.named; principals = r.principals; closes = closed_more r.tree U X r.within r.closes; grows = r.grows }

  -- what closes a set rests on all of it
  pub closes_rests : (X : Set ℕ) (p : Tree SignedId) → Closes t X p → Rests t X X p
  closes_rests X p c = record { tree = c.tree; named = c.named; principals = c.principals; within = λ i e. e; closes = c.closes; grows = c.grows }

  -- what uses nothing of what was added closes the set without it
  pub rests_drop : (cs : List ℕ) (U X : Set ℕ) (p : Tree SignedId) → Rests t U (adding cs X) p → ((i : ℕ) → among cs i ≡ true → U i ≡ false) → Rests t U X p
  rests_drop cs U X p r unused = record {
    tree = r.tree;
    named = r.named;
    principals = r.principals;
    within = λ i e. elim (or_cases (among cs i) (X i) (r.within i e)) [ inl a ↦ absurd (both_ways (U i) (unused i a) e) | inr b ↦ b ];
    closes = r.closes;
    grows = grows_less r.tree X (adding cs X) (adding_old cs X) r.grows;
  }

  pub rests_close : (item : ℕ) (U X : Set ℕ) → item < item_count t → IsWithin U X → Applies (items t) (cuts t) t.logic U Rule.Close item → Rests t U X (node Rule.Close (item_at t item) none)
  rests_close item U X below h a = record { tree = node Rule.Close item none; named = refl; principals = (below, tt); within = h; closes = (a, tt); grows = (tt, tt) }

  pub rests_absurd : (item : ℕ) (U X : Set ℕ) → item < item_count t → IsWithin U X → Applies (items t) (cuts t) t.logic U Rule.Absurd item → Rests t U X (node Rule.Absurd (item_at t item) none)
  rests_absurd item U X below h a = record { tree = node Rule.Absurd item none; named = refl; principals = (below, tt); within = h; closes = (a, tt); grows = (tt, tt) }

  -- a rule uses what it needs, and of what its premises use what it didn't add
  pub rests_alone : (rule : Rule) (item : ℕ) (cs : List ℕ) (U X : Set ℕ) (p : Tree SignedId) →
      Moves t X rule item (cs ∷ []) → Rests t U (adding cs X) p →
      Rests t (adding (needed rule item) (without cs U)) X (node rule (item_at t item) (more p none))
  rests_alone rule item cs U X p m r =
      let V : Set ℕ = adding (needed rule item) (without cs U) in
      record {
        tree = node rule item (more r.tree none);
        named = ap (λ q. node rule (item_at t item) (more q none)) r.named;
        principals = (m.below, (r.principals, tt));
        within = λ i e. elim (or_cases (among (needed rule item) i) (without cs U i) e) [ inl a ↦ each_in (needed rule item) X m.there i a | inr b ↦ without_within cs U X r.within i b ];
        closes = (
          m.leaves.applies V (each_added (needed rule item) (without cs U)),
          subst (λ Xs. ClosedAll (items t) (cuts t) t.logic Xs (more r.tree none)) (sym (m.leaves.left V))
              (closed_more r.tree U (adding cs V) (without_covers cs U V (adding_old (needed rule item) (without cs U))) r.closes, tt),
        );
        grows = subst (λ Xs. Gains rule X Xs × GrowAll (items t) t.logic Xs (more r.tree none)) (sym (m.leaves.left X)) (gains_any rule X (adding cs X ∷ []) m.gains, (r.grows, tt));
      }

  pub rests_branch : (rule : Rule) (item : ℕ) (cs ds : List ℕ) (U V X : Set ℕ) (p q : Tree SignedId) →
      Moves t X rule item (cs ∷ ds ∷ []) → Rests t U (adding cs X) p → Rests t V (adding ds X) q →
      Rests t (adding (needed rule item) (either (without cs U) (without ds V))) X (node rule (item_at t item) (more p (more q none)))
  rests_branch rule item cs ds U V X p q m r s =
      let W : Set ℕ = either (without cs U) (without ds V) in
      let Z : Set ℕ = adding (needed rule item) W in
      record {
        tree = node rule item (more r.tree (more s.tree none));
        named = λ i. node rule (item_at t item) (more (r.named i) (more (s.named i) none));
        principals = (m.below, (r.principals, (s.principals, tt)));
        within = λ i e. elim (or_cases (among (needed rule item) i) (W i) e) [
          | inl a ↦ each_in (needed rule item) X m.there i a
          | inr b ↦ elim (or_cases (without cs U i) (without ds V i) b) [ inl c ↦ without_within cs U X r.within i c | inr d ↦ without_within ds V X s.within i d ]
        ];
        closes = (
          m.leaves.applies Z (each_added (needed rule item) W),
          subst (λ Xs. ClosedAll (items t) (cuts t) t.logic Xs (more r.tree (more s.tree none))) (sym (m.leaves.left Z)) (
            closed_more r.tree U (adding cs Z) (without_covers cs U Z (λ i e. or_right (among (needed rule item) i) (W i) (or_left (without cs U i) (without ds V i) e))) r.closes,
            (closed_more s.tree V (adding ds Z) (without_covers ds V Z (λ i e. or_right (among (needed rule item) i) (W i) (or_right (without cs U i) (without ds V i) e))) s.closes, tt),
          ),
        );
        grows = subst (λ Xs. Gains rule X Xs × GrowAll (items t) t.logic Xs (more r.tree (more s.tree none))) (sym (m.leaves.left X))
            (gains_any rule X (adding cs X ∷ adding ds X ∷ []) m.gains, (r.grows, (s.grows, tt)));
      }
