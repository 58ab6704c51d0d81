-- The rows of a model's worlds, made of what the worlds see and of the variables that are true there, in order.
use Rattle.std.proofs.Common.{◌≡◌, ℕ, ◌+◌, ◌<◌, ◌≤◌, IsTrue, List, [], ◌∷◌, ◌++◌, length, ◌↔◌, ◌⊎◌, inl, inr, refl, sym, ◌∙◌, ap, subst, Less, Equal, Greater, nat_cmp, arith}
use Rattle.std.proofs.Math.Nat.{eq-or-lt_of_le}
use Rattle.std.proofs.lemmas.Bool.{false≢true, cases_lt}
use Rattle.std.proofs.lemmas.Cmp.{ranked}
use Rattle.std.proofs.lemmas.List.{get_or_append_left, get_or_push, get_or_past, length_push}
use Rattle.std.proofs.lemmas.List.Elements.{All-contains, All-nil, All-push, recursion_from_All}
use Rattle.std.proofs.lemmas.Map.Keys.{sorted_head, sorted_tail}
use Rattle.std.specs.Cmp.Lexicographic.{slice_cmp}
use Rattle.std.specs.List.{All, AllByRecursion, Contains}
use Rattle.std.specs.List.Sorted.{IsStrictlySortedBy}
use Rattle.std.specs.Ordering.{MatchOrdering}
use Rattle.std.specs.declared.cmp.Ordering.{Ordering}
use Rattle.lw_formula.proofs.ListMembers.{Contains-nil, All-members}
use Rattle.lw_formula.specs.FiniteModel.{FiniteModel, IsWellFormed, Sees, HasFact}
use Rattle.lw_formula.specs.Name.{is_name}
use Rattle.lw_cert.specs.Lines.{Row, Climb, Rise, IsRow, model_follows, worlds_are, refuted_is, world_is, ending}
use Rattle.lw_cert.specs.Sheet.{rows_from}
use Rattle.lw_cert.specs.Certificates.{row_at, IsRowOf, AreRowsOf}
use Rattle.lw_cert.specs.Written.{text_of_lines}
use Rattle.lw_cert.specs.Private.LineWriting.{Writes, WritesModel, WritesRow, WritesRows}
use Rattle.lw_cert.proofs.LastLines.{rows_from-push}
use Rattle.lw_cert.proofs.LineBytes.{writes-then}

each-more : {X : Type 0} (P Q : X → Type 0) → ((x : X) → P x → Q x) → (xs : List X) → AllByRecursion P xs → AllByRecursion Q xs
each-more P Q f [] all = tt
each-more P Q f (x ∷ xs) all = (f x all.0, each-more P Q f xs all.1)

climbs : (n least : ℕ) (vs : List ℕ) → IsStrictlySortedBy nat_cmp vs → AllByRecursion (λ v. v < n) vs → AllByRecursion (λ v. least ≤ v) vs → Climb n least vs
climbs n least [] up below from = tt
climbs n least (v ∷ vs) up below from = (
  from.0,
  below.0,
  climbs n (v + 1) vs (sorted_tail nat_cmp v vs up) below.1
      (each-more (λ u. nat_cmp v u ≡ Less) (λ u. v + 1 ≤ u) (λ u less. above v u (nat_cmp v u) (ranked v u (nat_cmp v u) refl) less) vs (sorted_head nat_cmp v vs up)),
)
  where
    above : (x y : ℕ) (r : Ordering) → MatchOrdering r (x < y) (x ≡ y) (y < x) → r ≡ Less → x + 1 ≤ y
    above x y Less below less = omega arith
    above x y Equal same less = cc
    above x y Greater over less = cc

rises : (last : List ℕ) (ps : List (List ℕ)) → IsStrictlySortedBy (slice_cmp nat_cmp) ps → AllByRecursion (λ p. IsTrue (is_name p)) ps → AllByRecursion (λ p. slice_cmp nat_cmp last p ≡ Less) ps → Rise last ps
rises last [] up named behind = tt
rises last (p ∷ ps) up named behind = (named.0, behind.0, rises p ps (sorted_tail (slice_cmp nat_cmp) p ps up) named.1 (sorted_head (slice_cmp nat_cmp) p ps up))

-- a name has a byte
nonempty : (p : List ℕ) → IsTrue (is_name p) → slice_cmp nat_cmp [] p ≡ Less
unfolding is_name
nonempty [] named = absurd (false≢true named)
nonempty (b ∷ p) named = refl

-- the line of a world was written with what the world sees and what is true there
pub row-written : (m : FiniteModel) (w : ℕ) (vs : List ℕ) (ps : List (List ℕ)) (old new : List ℕ) → IsWellFormed m
    → ((v : ℕ) → Contains vs v ↔ Sees m w v) → IsStrictlySortedBy nat_cmp vs
    → ((p : List ℕ) → Contains ps p ↔ HasFact m w p) → IsStrictlySortedBy (slice_cmp nat_cmp) ps → All (λ p. IsTrue (is_name p)) ps
    → Writes old new (λ rest. world_is m.worlds w (record { sees = vs; names = ps }) ∷ rest) → WritesRow m w old new
row-written m w vs ps old new formed seen up true' rise named text =
    let below = recursion_from_All (λ v. v < m.worlds) vs (All-members (λ v. v < m.worlds) vs (λ v in'. (All-contains (λ p. (p.0 < m.worlds) × (p.1 < m.worlds)) m.pairs (w, v) formed.pairs_within ((seen v).0 in')).1)) in
    let are = recursion_from_All (λ p. IsTrue (is_name p)) ps named in record {
      row = record { sees = vs; names = ps };
      says = record { relation = λ v. ((seen v).1, (seen v).0); facts = λ p. ((true' p).1, (true' p).0) };
      ordered = record {
        sees = climbs m.worlds 0 vs up below (each-more (λ v. v < m.worlds) (λ v. 0 ≤ v) (λ v h. omega arith) vs below);
        names = rises [] ps rise are (each-more (λ p. IsTrue (is_name p)) (λ p. slice_cmp nat_cmp [] p ≡ Less) nonempty ps are);
      };
      text = text;
    }

pub rows-none : (m : FiniteModel) (old : List ℕ) → WritesRows m 0 old old
rows-none m old = record { rows = []; count = refl; says = λ w l. absurd (omega (arith, l)); ordered = All-nil (IsRow m.worlds); text = λ rest. refl }

-- one more row was written
pub rows-more : (m : FiniteModel) (k : ℕ) (a b c : List ℕ) → WritesRows m k a b → WritesRow m k b c → WritesRows m (k + 1) a c
rows-more m k a b c before more = record {
  rows = all;
  count = length_push before.rows more.row ∙ ap (λ n. n + 1) before.count;
  says = λ w l. at w (eq-or-lt_of_le (let h : w ≤ k = omega (arith, l) in h));
  ordered = All-push (IsRow m.worlds) before.rows more.row before.ordered more.ordered;
  text = λ rest. more.text rest ∙ before.text (world_is m.worlds k more.row ∷ rest) ∙ ap (λ ls. a ++ text_of_lines ls) (sym (rows_from-push m.worlds 0 k before.rows more.row rest (let from : 0 + length before.rows ≡ k = omega (arith, before.count) in from)));
}
  where
    all : List Row
    all = before.rows ++ more.row ∷ []

    none : Row
    none = record { sees = []; names = [] }

    at : (w : ℕ) → (w ≡ k) ⊎ (w < k) → IsRowOf m w (row_at all w)
    at w (inl e) = subst (IsRowOf m w) (sym (get_or_push before.rows more.row none w (before.count ∙ sym e))) (subst (λ x. IsRowOf m x more.row) (sym e) more.says)
    at w (inr l) = subst (IsRowOf m w) (sym (get_or_append_left before.rows (more.row ∷ []) none w (let h : w < length before.rows = subst (λ x. w < x) (sym before.count) l in h))) (before.says w l)

-- the rows of all worlds tell the model
rows-are : (m : FiniteModel) (rows : List Row) → IsWellFormed m → length rows ≡ m.worlds → ((w : ℕ) → w < m.worlds → IsRowOf m w (row_at rows w)) → AreRowsOf m rows
rows-are m rows formed count says = λ w. record {
  relation = λ v. (
    λ h. ((says w (All-contains (λ p. (p.0 < m.worlds) × (p.1 < m.worlds)) m.pairs (w, v) formed.pairs_within h).0).relation v).0 h,
    λ h. ((says w (within (λ r. r.sees) refl w v h)).relation v).1 h,
  );
  facts = λ p. (
    λ h. ((says w (All-contains (λ f. f.0 < m.worlds) m.facts (w, p) formed.facts_within h)).facts p).0 h,
    λ h. ((says w (within (λ r. r.names) refl w p h)).facts p).1 h,
  );
}
  where
    -- a world whose row has something is one of the worlds
    within : {X : Type 0} (part : Row → List X) → part (record { sees = []; names = [] }) ≡ [] → (w : ℕ) (x : X) → Contains (part (row_at rows w)) x → w < m.worlds
    within part none w x h = elim (cases_lt w (length rows)) [
      | inr past ↦ absurd (Contains-nil x (subst (λ xs. Contains xs x) (ap part (get_or_past rows w (record { sees = []; names = [] }) past) ∙ none) h))
      | inl below ↦ subst (λ n. w < n) count below
    ]

-- the lines of the model were written with its rows
pub model-written : (m : FiniteModel) (w n : ℕ) (a b c d : List ℕ) → n ≡ m.worlds → IsWellFormed m
    → Writes a b (λ rest. model_follows ∷ worlds_are n ∷ refuted_is n w ∷ rest) → WritesRows m m.worlds b c → Writes c d (λ rest. ending ∷ rest) → WritesModel m w a d
model-written m w n a b c d same formed counts table end =
    let P : ℕ → Type 0 = λ k. Writes a d (λ rest. model_follows ∷ worlds_are k ∷ refuted_is k w ∷ rows_from k 0 table.rows (ending ∷ rest)) in
    let begun = subst (λ k. Writes a b (λ rest. model_follows ∷ worlds_are k ∷ refuted_is k w ∷ rest)) same counts in
    let whole : P m.worlds =
    writes-then a c d (λ rest. model_follows ∷ worlds_are m.worlds ∷ refuted_is m.worlds w ∷ rows_from m.worlds 0 table.rows rest) (λ rest. ending ∷ rest)
    (writes-then a b c (λ rest. model_follows ∷ worlds_are m.worlds ∷ refuted_is m.worlds w ∷ rest) (rows_from m.worlds 0 table.rows) begun table.text) end
    in record {
      rows = table.rows;
      count = sym table.count;
      says = rows-are m table.rows formed table.count table.says;
      ordered = subst (λ k. All (IsRow k) table.rows) (sym table.count) table.ordered;
      text = subst P (sym table.count) whole;
    }
