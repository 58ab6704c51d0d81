-- The lines of a table by their numbers, and how a loop compares those that are cited with the premises.
use Rattle.std.proofs.Common.{◌≡◌, ℕ, ◌+◌, ◌<◌, ◌≤◌, inl, inr, suc, zero, List, [], ◌∷◌, length, map, get_or, sym, ap, subst, ◌∙◌, arith}
use Rattle.std.specs.List.{All, AllZip}
use Rattle.std.specs.Option.{option_map}
use Rattle.std.proofs.lemmas.Option.{slice_get-map, slice_get-get_or}
use Rattle.std.proofs.lemmas.Slice.Zip.{AllZip-long}
use Rattle.std.proofs.lemmas.Bool.{cases_lt}
use Rattle.std.proofs.lemmas.List.{get_or-map, get_or_default, length-map}
use Rattle.lw_formula.specs.declared.sign.Sign.TheVariants.{F}
use Rattle.lw_formula.specs.Formula.{Formula}
use Rattle.lw_formula.specs.Signed.{Signed, SignedSet}
use Rattle.lw_pool.specs.declared.id.SignedId.{SignedId}
use Rattle.lw_proof.specs.declared.rule.Rule.{Rule}
use Rattle.lw_proof.specs.System.{IsWithin}
use Rattle.lw_sets.specs.IdSets.{set_of}
use Rattle.lw_share.specs.Lines.{Line, IsLineAt, CitesEarlier}
use Rattle.lw_share.specs.Pooled.{line_of, line_at, table_at}
use Rattle.lw_share.specs.SharedProofs.{set_in, IsLineWithin, CiteEach}
use Rattle.lw_share.proofs.UnfoldedLines.{one_line}

-- what holds place by place
pub zip_all : {A B : Type 0} (R : A → B → Type 0) (xs : List A) (ys : List B) → length xs ≡ length ys →
    ((i : ℕ) (d : A) (e : B) → i < length xs → R (get_or xs i d) (get_or ys i e)) → AllZip R xs ys
zip_all R [] [] n h = tt
zip_all R [] (y ∷ ys) n h = absurd (omega (arith, n))
zip_all R (x ∷ xs) [] n h = absurd (omega (arith, n))
zip_all R (x ∷ xs) (y ∷ ys) n h =
    (h 0 x y (omega arith), zip_all R xs ys (omega (arith, n)) (λ i d e b. h (suc i) d e (omega (arith, b))))

pub zip_at : {A B : Type 0} (R : A → B → Type 0) (xs : List A) (ys : List B) (i : ℕ) (d : A) (e : B) → AllZip R xs ys → i < length xs → R (get_or xs i d) (get_or ys i e)
zip_at R [] [] i d e z b = absurd (omega (arith, b))
zip_at R [] (y ∷ ys) i d e z b = absurd z
zip_at R (x ∷ xs) [] i d e z b = absurd z
zip_at R (x ∷ xs) (y ∷ ys) zero d e z b = z.0
zip_at R (x ∷ xs) (y ∷ ys) (suc i) d e z b = zip_at R xs ys i d e z.1 (omega (arith, b))

module _ (ts : List Formula) (table : List (Line SignedId)) where
  -- the line with a number below the count
  pub at_number : (i : ℕ) → i < length table → IsLineAt (table_at ts table) i (line_at ts (line_of table i))
  at_number i below =
      slice_get-map (line_at ts) table i
      ∙ ap (option_map (line_at ts)) (slice_get-get_or table i (record { members = []; rule = Rule.Close; principal = record { sign = F; form = record { 0 = 0 } }; cites = [] }) below)

  pub line_within : (i : ℕ) (X : SignedSet) → i < length table → IsWithin (set_of ts (line_of table i).members) X → IsLineWithin (table_at ts table) i X
  line_within i X below h = (line_at ts (line_of table i), at_number i below, h)

  pub within_line : (i : ℕ) (X : SignedSet) → i < length table → IsLineWithin (table_at ts table) i X → IsWithin (set_of ts (line_of table i).members) X
  within_line i X below w =
      subst (λ (l : Line Signed). IsWithin (set_in l) X) (one_line (table_at ts table) i w.0 (line_at ts (line_of table i)) w.1 (at_number i below)) w.2

module _ (ts : List Formula) (table : List (Line SignedId)) (cites : List ℕ) (premises : List (List SignedId)) (i : ℕ) (below : i < length cites) (within : i < length premises)
    (xs ys : List SignedId) (cited : xs ≡ (line_of table (get_or cites i 0)).members) (premise : ys ≡ get_or premises i ys) where
  -- the next comparison
  pub each_more : IsWithin (set_of ts xs) (set_of ts ys) →
      ((k d : ℕ) (e : List SignedId) → k < i → IsWithin (set_of ts (line_of table (get_or cites k d)).members) (set_of ts (get_or premises k e))) →
      (k d : ℕ) (e : List SignedId) → k < i + 1 → IsWithin (set_of ts (line_of table (get_or cites k d)).members) (set_of ts (get_or premises k e))
  each_more h before k d e b = elim (cases_lt k i) [ inl less ↦ before k d e less | inr more ↦ last more ]
    where
      last : i ≤ k → IsWithin (set_of ts (line_of table (get_or cites k d)).members) (set_of ts (get_or premises k e))
      last more =
          let same : i ≡ k = omega (arith, more, b) in
          subst (λ j. IsWithin (set_of ts (line_of table (get_or cites j d)).members) (set_of ts (get_or premises j e))) same
          (subst (λ (zs : List SignedId). IsWithin (set_of ts (line_of table (get_or cites i d)).members) (set_of ts zs)) (premise ∙ get_or_default premises i ys e within)
          (subst (λ (zs : List SignedId). IsWithin (set_of ts zs) (set_of ts ys)) (cited ∙ ap (λ c. (line_of table c).members) (get_or_default cites i 0 d below)) h))

  -- a comparison that fails
  pub not_each : All (λ c. c < length table) cites → ¬ IsWithin (set_of ts xs) (set_of ts ys) → ¬ CiteEach (table_at ts table) cites (map (set_of ts) premises)
  not_each all away each =
      let at : IsLineWithin (table_at ts table) (get_or cites i 0) (get_or (map (set_of ts) premises) i (set_of ts ys)) =
      zip_at (IsLineWithin (table_at ts table)) cites (map (set_of ts) premises) i 0 (set_of ts ys) each below in
      let of_set : get_or (map (set_of ts) premises) i (set_of ts ys) ≡ set_of ts ys =
      get_or-map (set_of ts) premises i ys (set_of ts ys) within ∙ ap (set_of ts) (sym premise) in
      away
      (subst (λ (zs : List SignedId). IsWithin (set_of ts zs) (set_of ts ys)) (sym cited)
      (within_line ts table (get_or cites i 0) (set_of ts ys) (all i 0 below)
      (subst (λ (X : SignedSet). IsLineWithin (table_at ts table) (get_or cites i 0) X) of_set at)))

-- all comparisons
pub all_cited : (ts : List Formula) (table : List (Line SignedId)) (cites : List ℕ) (premises : List (List SignedId)) → length cites ≡ length premises →
    All (λ c. c < length table) cites →
    ((k d : ℕ) (e : List SignedId) → k < length cites → IsWithin (set_of ts (line_of table (get_or cites k d)).members) (set_of ts (get_or premises k e))) →
    CiteEach (table_at ts table) cites (map (set_of ts) premises)
all_cited ts table cites premises long all each =
    zip_all (IsLineWithin (table_at ts table)) cites (map (set_of ts) premises) (long ∙ sym (length-map premises (set_of ts))) at_each
  where
    at_each : (i d : ℕ) (X : SignedSet) → i < length cites → IsLineWithin (table_at ts table) (get_or cites i d) (get_or (map (set_of ts) premises) i X)
    at_each i d X below =
        line_within ts table (get_or cites i d) (get_or (map (set_of ts) premises) i X) (all i d below)
        (subst (λ (Y : SignedSet). IsWithin (set_of ts (line_of table (get_or cites i d)).members) Y)
        (sym (get_or-map (set_of ts) premises i [] X (omega (arith, below, long)))) (each i d [] below))

-- as many are cited as there are premises
pub cited_count : (ts : List Formula) (table : List (Line SignedId)) (cites : List ℕ) (premises : List (List SignedId)) →
    CiteEach (table_at ts table) cites (map (set_of ts) premises) → length cites ≡ length premises
cited_count ts table cites premises each =
    sym (sym (length-map premises (set_of ts)) ∙ AllZip-long (IsLineWithin (table_at ts table)) cites (map (set_of ts) premises) each)

-- the line with a number cites earlier ones
pub cites_earlier : (table : List (Line SignedId)) → CitesEarlier table → (i : ℕ) → i < length table → All (λ c. c < i) (line_of table i).cites
cites_earlier table earlier i below =
    earlier i (line_of table i) (slice_get-get_or table i (record { members = []; rule = Rule.Close; principal = record { sign = F; form = record { 0 = 0 } }; cites = [] }) below)
