-- Labels put together item by item: seeds, what a Step uses, and the items of a world.
use Rattle.std.proofs.Common.{◌≡◌, ℕ, zero, suc, ◌+◌, ◌-◌, ◌*◌, ◌<◌, ◌≤◌, Bool, true, false, not, ◌&&◌, ◌||◌, eqb, ltb, List, [], ◌∷◌, ◌++◌, Option, inl, inr, refl, sym, ap, subst, ◌∙◌, arith, add-one}
use Rattle.std.specs.Cmp.{both_ways as same_bool}
use Rattle.std.proofs.lemmas.Bool.{and_parts, and_from, cases_Bool, cases_eq, eq-eqb, eqb-true, ne_eqb, lt-ltb, le-ltb, both_ways, false≢true}
use Rattle.lw_proof.specs.System.{Set}
use Rattle.lw_proof.specs.Derivation.{added, has_cut, kept}
use Rattle.lw_closure.specs.Table.{Table, item_count}
use Rattle.lw_closure.specs.Items.{any_below, items}
use Rattle.lw_closure.proofs.ItemNumbers.{any_below_cases, any_below-found}
use Rattle.lw_sat.specs.declared.board.Board.{Board}
use Rattle.lw_sat.specs.Moves.{listed}
use Rattle.lw_sat.specs.SeedPath.{Spot, root, spot_of, Becomes}
use Rattle.lw_sat.specs.Saturated.{room}
use Rattle.lw_sat.specs.Sets.{adding, among, either, nothing, top, weight, weights, without, IsOfItems}
use Rattle.lw_sat.proofs.BoardSpots.{label_more}
use Rattle.lw_sat.proofs.SaturationCourse.{seed_more}
use Rattle.lw_sat.proofs.SetWeights.{weight_more}
use Rattle.lw_sat.proofs.LastRowChanges.{and_pair, below_same}
use Rattle.lw_search.specs.Private.SearchLevels.{most_room}
use Rattle.lw_search.specs.Step.{seed}
use Rattle.lw_search.specs.Private.StepUse.{kept_of}
use Rattle.lw_search.proofs.KeptItems.{each_kept, kept_some}

-- what a step keeps of the items below k of a label
abbrev pub kept_below : Table → Set ℕ → ℕ → Set ℕ
kept_below t X k j = any_below (λ i. X i && kept_of t i j) k

-- of all items together it keeps what it keeps of the label
kept_all : (t : Table) → has_cut t.logic ≡ false → (X : Set ℕ) → IsOfItems t X → kept_below t X (item_count t) ≡ kept (items t) t.logic X
kept_all t uncut X own = λ m j. same_bool (kept_below t X (item_count t) j) (kept (items t) t.logic X j) (there j) (back j) m where
  there : (j : ℕ) → kept_below t X (item_count t) j ≡ true → kept (items t) t.logic X j ≡ true
  there j e =
      let (i, l, h) = any_below_cases (λ i. X i && kept_of t i j) (item_count t) e in
      let both = and_parts (X i) (kept_of t i j) h in
      each_kept t uncut X own j i both.0 both.1

  back : (j : ℕ) → kept (items t) t.logic X j ≡ true → kept_below t X (item_count t) j ≡ true
  back j e = let (i, here, k) = kept_some t uncut X own j e in any_below-found (λ i. X i && kept_of t i j) (item_count t) i (own i here) (and_from (X i) (kept_of t i j) here k)

or_swap : (x y z : Bool) → (y || (x || z)) ≡ ((x || y) || z)
or_swap true true z = refl
or_swap true false z = refl
or_swap false true z = refl
or_swap false false z = refl

pub added_both : (b c d : Board) (Y : Set ℕ) (i inner : ℕ) (nu inside : Bool) → Y ≡ (λ j. (nu && eqb i j) || (inside && eqb inner j)) → Becomes b c (record (spot_of b) { set = λ j. (nu && eqb i j) || top b.labels j }) →
    Becomes c d (record (spot_of c) { set = λ j. (inside && eqb inner j) || top c.labels j }) → Becomes b d (record (spot_of b) { set = either Y (top b.labels) })
added_both b c d Y i inner nu inside e h k =
    subst (λ (Z : Set ℕ). Becomes b d (record (spot_of b) { set = Z })) (λ m j. (or_swap (nu && eqb i j) (inside && eqb inner j) (top b.labels j) ∙ (λ n. sym e n j || top b.labels j)) m)
    (label_more b c d (record (spot_of b) { set = λ j. (nu && eqb i j) || top b.labels j }) (λ Z j. (inside && eqb inner j) || Z j) h k)

pub kept_more : (t : Table) (X : Set ℕ) (k : ℕ) (b c : Board) → X k ≡ true → spot_of b ≡ root (kept_below t X k) → Becomes b c (record (spot_of b) { set = either (kept_of t k) (top b.labels) }) → spot_of c ≡ root (kept_below t X (k + 1))
kept_more t X k b c there e h =
    let g : Spot → Spot = λ a. record a { set = either (kept_of t k) a.set } in
    h.spot ∙ ap g e ∙ ap root (λ m j. (ap (λ x. (x && kept_of t k j) || kept_below t X k j) (sym there)) m) ∙ ap (λ n. root (kept_below t X n)) (sym (add-one k))

pub kept_skip : (t : Table) (X : Set ℕ) (k : ℕ) (b : Board) → X k ≡ false → spot_of b ≡ root (kept_below t X k) → spot_of b ≡ root (kept_below t X (k + 1))
kept_skip t X k b out e = e ∙ ap root (λ m j. (ap (λ x. (x && kept_of t k j) || kept_below t X k j) (sym out)) m) ∙ ap (λ n. root (kept_below t X n)) (sym (add-one k))

pub planted : (t : Table) → has_cut t.logic ≡ false → (X : Set ℕ) → IsOfItems t X → (k : ℕ) → k ≡ item_count t → (b c : Board) (item inner : ℕ) (o : Option ℕ) → spot_of b ≡ root (kept_below t X k) → added (items t) t.logic item inner ≡ listed (inner, o) →
    Becomes b c (record (spot_of b) { set = adding (listed (inner, o)) (top b.labels) }) → spot_of c ≡ root (seed t X item inner)
planted t uncut X own k all b c item inner o e same h =
    let g : Spot → Spot = λ a. record a { set = adding (listed (inner, o)) a.set } in
    h.spot ∙ ap g e ∙ (λ m. root (adding (sym same m) (kept_below t X (all m)))) ∙ ap (λ Y. root (adding (added (items t) t.logic item inner) Y)) (kept_all t uncut X own)

nothing_less : (n m : ℕ) → weight nothing n ≤ weight nothing (n + m)
nothing_less n zero = (let same : weight nothing (n + 0) ≡ weight nothing n = ap (weight nothing) (let z : n + 0 ≡ n = omega arith in z) in omega (arith, same))
nothing_less n (suc m) =
    let same : weight nothing (n + suc m) ≡ 3 * weight nothing (n + m) = ap (weight nothing) (let z : n + suc m ≡ suc (n + m) = omega arith in z) in
    omega (arith, same, nothing_less n m)

pub planted_room : (n : ℕ) (c : Board) (Y : Set ℕ) → spot_of c ≡ root Y → c.bits ≤ n + 64 → room c ≤ most_room n
planted_room n c Y e l =
    let less = weight_more nothing Y (λ i h. absurd (false≢true h)) c.bits in
    let more = nothing_less c.bits ((n + 64) - c.bits) in
    let whole : c.bits + ((n + 64) - c.bits) ≡ n + 64 = omega arith in
    let same : weight nothing (c.bits + ((n + 64) - c.bits)) ≡ weight nothing (n + 64) = ap (weight nothing) whole in
    subst (λ (a : Spot). weights c.bits a.below + 2 * weight a.set c.bits ≤ most_room n) (sym e) (omega (arith, less, more, same))

-- what the label above loses when what the step adds is taken out
pub left_both : (b c d : Board) (i j : ℕ) → Becomes b c (record (spot_of b) { set = without (i ∷ []) (top b.labels) }) → Becomes c d (record (spot_of c) { set = without (j ∷ []) (top c.labels) }) →
    Becomes b d (record (spot_of b) { set = without (i ∷ j ∷ []) (top b.labels) })
left_both b c d i j h k =
    subst (λ (Y : Set ℕ). Becomes b d (record (spot_of b) { set = Y })) (λ m n. and_pair (eqb i n) (eqb j n) (top b.labels n) m)
    (label_more b c d (record (spot_of b) { set = without (i ∷ []) (top b.labels) }) (without (j ∷ [])) h k)

-- the items below k that don't pass the test are taken out
abbrev pub cleared : Set ℕ → (ℕ → Bool) → ℕ → Set ℕ
cleared X test k i = X i && (not (ltb i k) || test i)

pub cleared_none : (X : Set ℕ) (test : ℕ → Bool) → X ≡ cleared X test 0
cleared_none X test = λ m i. at i m where
  at : (i : ℕ) → X i ≡ (X i && (not (ltb i 0) || test i))
  at i = go (X i) (ltb i 0) (test i) (le-ltb i 0 (omega arith)) where
    go : (x y z : Bool) → y ≡ false → x ≡ (x && (not y || z))
    go true y z e = ap (λ v. not v || z) (sym e)
    go false y z e = refl

pub cleared_keep : (X : Set ℕ) (test : ℕ → Bool) (k : ℕ) → test k ≡ true → cleared X test k ≡ cleared X test (k + 1)
cleared_keep X test k e = λ m i. at i m where
  true_or : (b : Bool) → (b || true) ≡ true
  true_or true = refl
  true_or false = refl

  at : (i : ℕ) → (X i && (not (ltb i k) || test i)) ≡ (X i && (not (ltb i (k + 1)) || test i))
  at i =
      elim (cases_eq i k) [
        | inl same ↦ (
            let yes : test i ≡ true = ap test same ∙ e in
            ap (λ b. X i && (not (ltb i k) || b)) yes ∙ ap (λ b. X i && b) (true_or (not (ltb i k)) ∙ sym (true_or (not (ltb i (k + 1))))) ∙ sym (ap (λ b. X i && (not (ltb i (k + 1)) || b)) yes)
            )
        | inr apart ↦ ap (λ b. X i && (not b || test i)) (sym (below_same i k (λ e. apart (sym e))))
      ]

pub cleared_drop : (X : Set ℕ) (test : ℕ → Bool) (k : ℕ) → test k ≡ false → without (k ∷ []) (cleared X test k) ≡ cleared X test (k + 1)
cleared_drop X test k e = λ m i. at i m where
  and_false : (b : Bool) → (b && false) ≡ false
  and_false true = refl
  and_false false = refl

  at : (i : ℕ) → (not (eqb k i || false) && (X i && (not (ltb i k) || test i))) ≡ (X i && (not (ltb i (k + 1)) || test i))
  at i =
      elim (cases_eq i k) [
        | inl same ↦ (
            let gone : (not (eqb k i || false) && (X i && (not (ltb i k) || test i))) ≡ false = ap (λ b. not (b || false) && (X i && (not (ltb i k) || test i))) (eq-eqb k i (sym same)) in
            let no : test i ≡ false = ap test same ∙ e in
            let here : ltb i (k + 1) ≡ true = lt-ltb i (k + 1) (omega arith) in
            gone ∙ sym ((λ j. X i && (not (here j) || no j)) ∙ and_false (X i))
            )
        | inr apart ↦ ap (λ b. not (b || false) && (X i && (not (ltb i k) || test i))) (ne_eqb k i (λ h. apart (sym h))) ∙ ap (λ b. X i && (not b || test i)) (sym (below_same i k (λ e. apart (sym e))))
      ]

pub cleared_all : (t : Table) (X : Set ℕ) (test : ℕ → Bool) (item k : ℕ) → IsOfItems t X → X item ≡ true → k ≡ item_count t → cleared X (λ i. eqb item i || test i) k ≡ (λ i. eqb item i || (X i && test i))
cleared_all t X test item k own there all = λ m i. at i m where
  at : (i : ℕ) → (X i && (not (ltb i k) || (eqb item i || test i))) ≡ (eqb item i || (X i && test i))
  at i =
      elim (cases_Bool (X i)) [
        | inl x ↦ (
            let below : ltb i k ≡ true = lt-ltb i k (subst (λ n. i < n) (sym all) (own i x)) in
            (λ j. x j && (not (below j) || (eqb item i || test i))) ∙ sym (ap (λ b. eqb item i || (b && test i)) x)
            )
        | inr x ↦ (
            let apart : eqb item i ≡ false = ne_eqb item i (λ e. both_ways (X i) x (subst (λ j. X j ≡ true) e there)) in
            ap (λ b. b && (not (ltb i k) || (eqb item i || test i))) x ∙ sym (λ j. apart j || (x j && test i))
            )
      ]

-- the items of a label, listed up to k
abbrev pub below : Set ℕ → ℕ → Set ℕ
below X k i = any_below (λ j. X j && eqb j i) k

pub listed_more : (X : Set ℕ) (k : ℕ) (xs : List ℕ) → X k ≡ true → among xs ≡ below X k → among (xs ++ k ∷ []) ≡ below X (k + 1)
listed_more X k xs there e =
    sym (seed_more xs k) ∙ ap (adding (k ∷ [])) e ∙ (λ m i. at i m) ∙ ap (below X) (sym (add-one k))
  where
    at : (i : ℕ) → ((eqb k i || false) || below X k i) ≡ ((X k && eqb k i) || below X k i)
    at i = ap (λ b. b || below X k i) (or_none (eqb k i) ∙ ap (λ b. b && eqb k i) (sym there)) where
      or_none : (b : Bool) → (b || false) ≡ b
      or_none true = refl
      or_none false = refl

pub listed_skip : (X : Set ℕ) (k : ℕ) (xs : List ℕ) → X k ≡ false → among xs ≡ below X k → among xs ≡ below X (k + 1)
listed_skip X k xs out e = e ∙ (λ m i. ap (λ b. (b && eqb k i) || below X k i) (sym out) m) ∙ ap (below X) (sym (add-one k))

pub listed_all : (t : Table) (X : Set ℕ) (k : ℕ) (xs : List ℕ) → IsOfItems t X → k ≡ item_count t → among xs ≡ below X k → among xs ≡ X
listed_all t X k xs own all e = e ∙ (λ m i. same_bool (below X k i) (X i) (there i) (back i) m) where
  there : (i : ℕ) → below X k i ≡ true → X i ≡ true
  there i h = let (j, l, both) = any_below_cases (λ m. X m && eqb m i) k h in let p = and_parts (X j) (eqb j i) both in subst (λ m. X m ≡ true) (eqb-true j i p.1) p.0

  back : (i : ℕ) → X i ≡ true → below X k i ≡ true
  back i h = any_below-found (λ m. X m && eqb m i) k i (subst (λ n. i < n) (sym all) (own i h)) (and_from (X i) (eqb i i) h (eq-eqb i i refl))

module _ (X : Set ℕ) (test : ℕ → Bool) (k : ℕ) (b c : Board) (h : Becomes b c (record (spot_of b) { set = cleared X test k })) where
  pub passes_on : test k ≡ true → Becomes b c (record (spot_of b) { set = cleared X test (k + 1) })
  passes_on e = subst (λ (Y : Set ℕ). Becomes b c (record (spot_of b) { set = Y })) (cleared_keep X test k e) h

  pub taken_out : (d : Board) → test k ≡ false → Becomes c d (record (spot_of c) { set = without (k ∷ []) (top c.labels) }) → Becomes b d (record (spot_of b) { set = cleared X test (k + 1) })
  taken_out d e g =
      subst (λ (Y : Set ℕ). Becomes b d (record (spot_of b) { set = Y })) (cleared_drop X test k e)
      (label_more b c d (record (spot_of b) { set = cleared X test k }) (without (k ∷ [])) h g)
