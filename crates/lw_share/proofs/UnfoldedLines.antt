-- What the lines of a shared proof unfold to closes their sets.
use Rattle.std.proofs.Common.{◌≡◌, ℕ, ◌<◌, suc, zero, List, [], ◌∷◌, length, Some, refl, sym, ap, subst, ◌∙◌, arith}
use Rattle.std.specs.List.{All}
use Rattle.std.proofs.lemmas.Option.{none-some, slice_get_within}
use Rattle.std.proofs.lemmas.List.Elements.{All-head, All-tail}
use Rattle.lw_formula.specs.declared.logic.Logic.{Logic}
use Rattle.lw_formula.specs.declared.sign.Sign.TheVariants.{F}
use Rattle.lw_formula.specs.Formula.{Formula}
use Rattle.lw_formula.specs.Signed.{Signed, SignedSet}
use Rattle.lw_formula.specs.Components.{parts_of}
use Rattle.lw_proof.specs.declared.rule.Rule.{Rule}
use Rattle.lw_proof.specs.Tree.{Tree, Forest, node, none, more}
use Rattle.lw_proof.specs.System.{trees}
use Rattle.lw_proof.specs.Derivation.{premises, Derives, ClosedAll, goal_cuts, only}
use Rattle.lw_proof.proofs.LargerSets.{larger_closed}
use Rattle.lw_proof.proofs.SoundRules.{proved_is_valid}
use Rattle.lw_share.specs.Lines.{Line, IsLineAt, CitesEarlier}
use Rattle.lw_share.specs.SharedProofs.{set_in, CiteEach, Holds}
use Rattle.lw_share.specs.Unfolding.{Unfolds, UnfoldEach}
use Rattle.lw_share.specs.Laws.{SharedProofUnfolds, UnfoldsOnce, UnfoldedProves, SharedIsValid}

-- a number has one line
pub one_line : {A : Type 0} (table : List (Line A)) (i : ℕ) (k l : Line A) → IsLineAt table i k → IsLineAt table i l → k ≡ l
one_line table i k l e f = some_is k l (sym e ∙ f)
  where
    some_is : {X : Type 0} (x y : X) → Some x ≡ Some y → x ≡ y
    some_is x y h = cc

-- what holds of each line holds of the line with a number
pub each_line : {A : Type 0} (P : Line A → Type 0) (table : List (Line A)) (i : ℕ) (line : Line A) → All P table → IsLineAt table i line → P line
each_line P [] i line all e = absurd (none-some line e)
each_line P (l ∷ ls) zero line all e = let s : l ≡ line = cc in subst P s (All-head P l ls all)
each_line P (l ∷ ls) (suc i) line all e = each_line P ls i line (All-tail P l ls all) e

-- there is a line below the count
pub some_line : {A : Type 0} (table : List (Line A)) (i : ℕ) → i < length table → (line : Line A) × IsLineAt table i line
some_line [] i h = absurd (omega (arith, h))
some_line (l ∷ ls) zero h = (l, refl)
some_line (l ∷ ls) (suc i) h = some_line ls i (omega (arith, h))

module _ (L : Logic) (goal : Formula) (table : List (Line Signed)) (holds : All (Holds L goal table) table) where
  mutual
    -- the tree of a line closes the line's set
    closes : (t : Tree Signed) (i : ℕ) (line : Line Signed) → IsLineAt table i line → Unfolds table i t → Derives L goal (set_in line) t
    closes (node r s ts) i line at (k, here, er, es, subs) =
        let e : k ≡ line = one_line table i k line here at in
        let h : Holds L goal table k = each_line (Holds L goal table) table i k holds here in
        let c : Derives L goal (set_in k) (node k.rule k.principal ts) = (h.0, each_closes ts k.cites (premises trees L k.rule k.principal (parts_of k.principal) (set_in k)) h.1 subs) in
        subst (λ (l : Line Signed). Derives L goal (set_in l) (node r s ts)) e
        (subst (λ (x : Signed). Derives L goal (set_in k) (node r x ts)) es (subst (λ (q : Rule). Derives L goal (set_in k) (node q k.principal ts)) er c))

    each_closes : (ts : Forest Signed) (cs : List ℕ) (Xs : List SignedSet) → CiteEach table cs Xs → UnfoldEach table cs ts → ClosedAll trees (goal_cuts goal) L Xs ts
    each_closes none [] [] c u = tt
    each_closes none [] (X ∷ Xs) c u = absurd c
    each_closes none (i ∷ is) Xs c u = absurd u
    each_closes (more t ts) [] Xs c u = absurd u
    each_closes (more t ts) (i ∷ is) [] c u = absurd c
    each_closes (more t ts) (i ∷ is) (X ∷ Xs) c u =
        (larger_closed L goal (set_in c.0.0) X t c.0.2 (closes t i c.0.0 c.0.1 u.0), each_closes ts is Xs c.1 u.1)

pub unfolded_is_proof : UnfoldedProves
unfolded_is_proof L table root goal p t u = larger_closed L goal (set_in p.root_within.0) (only (F, goal)) t p.root_within.2 (closes L goal table p.holds t root p.root_within.0 p.root_within.1 u)

mutual
  pub one_unfolding : UnfoldsOnce
  one_unfolding table i (node r s ts) (node q x us) (k, here, er, es, subs) (l, there, eq, ex, others) =
      let e : k ≡ l = one_line table i k l here there in
      λ j. node ((sym er ∙ ap (λ (m : Line Signed). m.rule) e ∙ eq) j) ((sym es ∙ ap (λ (m : Line Signed). m.principal) e ∙ ex) j)
      (one_each table l.cites ts us (subst (λ (m : Line Signed). UnfoldEach table m.cites ts) e subs) others j)

  one_each : (table : List (Line Signed)) (is : List ℕ) (ts us : Forest Signed) → UnfoldEach table is ts → UnfoldEach table is us → ts ≡ us
  one_each table [] none none f g = refl
  one_each table [] none (more u us) f g = absurd g
  one_each table [] (more t ts) us f g = absurd f
  one_each table (i ∷ is) none us f g = absurd f
  one_each table (i ∷ is) (more t ts) none f g = absurd g
  one_each table (i ∷ is) (more t ts) (more u us) f g = λ j. more (one_unfolding table i t u f.0 g.0 j) (one_each table is ts us f.1 g.1 j)

-- lines below i unfold to trees where each of them does
each_below : (table : List (Line Signed)) (i : ℕ) → ((c : ℕ) → c < i → (t : Tree Signed) × Unfolds table c t) →
    (cs : List ℕ) → All (λ c. c < i) cs → (ts : Forest Signed) × UnfoldEach table cs ts
each_below table i one [] a = (none, tt)
each_below table i one (c ∷ cs) a =
    let t = one c (All-head (λ (k : ℕ). k < i) c cs a) in
    let ts = each_below table i one cs (All-tail (λ (k : ℕ). k < i) c cs a) in
    (more t.0 ts.0, (t.1, ts.1))

-- each line below n, which is at most the count, unfolds to a tree
tree_below : (table : List (Line Signed)) → CitesEarlier table → (n i : ℕ) → i < n → i < length table → (t : Tree Signed) × Unfolds table i t
tree_below table earlier zero i h l = absurd (omega (arith, h))
tree_below table earlier (suc n) i h l =
    let found = some_line table i l in
    let subs = each_below table i (λ c b. tree_below table earlier n c (omega (arith, b, h)) (omega (arith, b, l))) found.0.cites (earlier i found.0 found.1) in
    (node found.0.rule found.0.principal subs.0, (found.0, found.1, refl, refl, subs.1))

pub has_unfolding : SharedProofUnfolds
has_unfolding L table root goal p =
    let below : root < length table = slice_get_within table root p.root_within.0 p.root_within.1 in
    tree_below table p.earlier (suc root) root (omega arith) below

pub shared_valid : SharedIsValid
shared_valid L table root goal p =
    let t = has_unfolding L table root goal p in
    proved_is_valid L t.0 goal (unfolded_is_proof L table root goal p t.0 t.1)
