-- The square of a fragment's edges.
use Rattle.std.proofs.Common.{◌≡◌, ℕ, ◌+◌, ◌<◌, ◌≤◌, true, false, Some, None, List, [], ◌∷◌, ◌++◌, length, get_or, take, inl, inr, ap, sym, subst, ◌∙◌, arith}
use Rattle.std.specs.Bool.{IsTrue}
use Rattle.std.specs.List.{Contains}
use Rattle.std.proofs.lemmas.Bool.{false≢true}
use Rattle.std.proofs.lemmas.List.{take_more, take_all}
use Rattle.std.proofs.lemmas.List.Elements.{Contains-append_left, Contains-push, Contains-push_cases}
use Rattle.lw_formula.specs.declared.logic.Logic.{Logic}
use Rattle.lw_formula.specs.declared.logic.Logic.TheVariants.{K, KT, S4, S5, GL, Grz, K4, KD}
use Rattle.lw_counter.specs.Fragment.{Fragment, world_at}
use Rattle.lw_counter.specs.FragmentPaths.{IsEdge, IsPath, Reaches, Completed, has_links}
use Rattle.lw_counter.specs.Private.BuiltRelation.{Square, Joins, SetsBits, IsSquareOf}
use Rattle.lw_counter.proofs.EdgePaths.{child_within}
use Rattle.lw_counter.proofs.BitSquares.{adds_then, adds_as, last_or}

-- the loop over the children
abbrev pub Children : Fragment → ℕ → ℕ → ℕ → Type 0
Children f i w v = (v < i) × ((world_at f v).parent ≡ Some w)

pub children_more : (f : Fragment) (s t u : Square) (i p : ℕ) → SetsBits s t (Children f i) → (world_at f i).parent ≡ Some p → SetsBits t u (λ w v. (w ≡ p) × (v ≡ i)) → SetsBits s u (Children f (i + 1))
children_more f s t u i p a e b = record {
  count = b.count ∙ a.count;
  bits = adds_then (Joins s) (Joins t) (Joins u) (Children f i) (λ w v. (w ≡ p) × (v ≡ i)) (Children f (i + 1)) a.bits b.bits
      (λ w v x. (omega arith, x.1))
      (λ w v x. (omega arith, ap (λ k. (world_at f k).parent) x.1 ∙ e ∙ ap Some (sym x.0)))
      (λ w v x. elim (last_or i v x.0) [ inl l ↦ inl (l, x.1) | inr k ↦ inr (same w (sym (ap (λ j. (world_at f j).parent) k ∙ e) ∙ x.1), k) ]);
}
  where
    same : (w : ℕ) → Some p ≡ Some w → w ≡ p
    same w q = cc

pub children_skip : (f : Fragment) (s t : Square) (i : ℕ) → SetsBits s t (Children f i) → (world_at f i).parent ≡ None → SetsBits s t (Children f (i + 1))
children_skip f s t i a e = record {
  count = a.count;
  bits = adds_as (Joins s) (Joins t) (Children f i) (Children f (i + 1)) a.bits
      (λ w v x. (omega arith, x.1))
      (λ w v x. elim (last_or i v x.0) [ inl l ↦ inl (l, x.1) | inr k ↦ absurd (none w (sym (ap (λ j. (world_at f j).parent) k ∙ e) ∙ x.1)) ]);
}
  where
    none : (w : ℕ) → None ≡ Some w → ⊥
    none w q = cc

pub children_end : (f : Fragment) (s t : Square) (n : ℕ) → SetsBits s t (Children f n) → n ≡ length f.worlds → SetsBits s t (λ w v. (world_at f v).parent ≡ Some w)
children_end f s t n a e = record {
  count = a.count;
  bits = adds_as (Joins s) (Joins t) (Children f n) (λ w v. (world_at f v).parent ≡ Some w) a.bits
      (λ w v x. x.1)
      (λ w v x. inl (subst (λ k. v < k) (sym e) (child_within f v w x), x));
}

-- the loop over the links
abbrev pub Taken : List (ℕ × ℕ) → ℕ → ℕ → ℕ → Type 0
Taken links i w v = Contains (take i links) (w, v)

pub links_more : (links : List (ℕ × ℕ)) (s t u : Square) (i : ℕ) → i < length links → SetsBits s t (Taken links i) → SetsBits t u (λ w v. (w ≡ (get_or links i (0, 0)).0) × (v ≡ (get_or links i (0, 0)).1)) → SetsBits s u (Taken links (i + 1))
links_more links s t u i k a b = go (get_or links i (0, 0)) (take_more links i (0, 0) k) b
  where
    go : (l : ℕ × ℕ) → take (i + 1) links ≡ take i links ++ l ∷ [] → SetsBits t u (λ w v. (w ≡ l.0) × (v ≡ l.1)) → SetsBits s u (Taken links (i + 1))
    go l pushed b = record {
      count = b.count ∙ a.count;
      bits = adds_then (Joins s) (Joins t) (Joins u) (Taken links i) (λ w v. (w ≡ l.0) × (v ≡ l.1)) (Taken links (i + 1)) a.bits b.bits
          (λ w v x. subst (λ xs. Contains xs (w, v)) (sym pushed) (Contains-append_left (take i links) (l ∷ []) (w, v) x))
          (λ w v x. subst (λ xs. Contains xs (w, v)) (sym pushed) (subst (Contains (take i links ++ l ∷ [])) (λ j. (sym x.0 j, sym x.1 j)) (Contains-push (take i links) l)))
          (λ w v x. elim (Contains-push_cases (take i links) l (w, v) (subst (λ xs. Contains xs (w, v)) pushed x)) [
            | inl old ↦ inl old
            | inr q ↦ inr (sym (ap (λ (p : ℕ × ℕ). p.0) q), sym (ap (λ (p : ℕ × ℕ). p.1) q))
          ]);
    }

pub links_end : (links : List (ℕ × ℕ)) (s t : Square) (i : ℕ) → SetsBits s t (Taken links i) → length links ≤ i → SetsBits s t (λ w v. Contains links (w, v))
links_end links s t i a l = subst (λ xs. SetsBits s t (λ w v. Contains xs (w, v))) (take_all i links l) a

-- the edges, where links don't count, and where they do
pub edges_plain : (L : Logic) (f : Fragment) (s t : Square) → has_links L ≡ false → IsSquareOf (length f.worlds) (λ _ _. IsTrue false) s → SetsBits s t (λ w v. (world_at f v).parent ≡ Some w) → IsSquareOf (length f.worlds) (IsEdge L f) t
edges_plain L f s t none a b = record {
  count = b.count ∙ a.count;
  joins = λ w v l k. (
    (λ x. elim (b.bits.only w v x) [ inl old ↦ absurd (false≢true ((a.joins w v l k).0 old)) | inr new ↦ inl new ]),
    (λ x. elim x [ inl child ↦ b.bits.adds w v child | inr link ↦ absurd (false≢true (sym none ∙ link.0)) ]),
  );
}

pub edges_linked : (L : Logic) (f : Fragment) (s t u : Square) → has_links L ≡ true → IsSquareOf (length f.worlds) (λ _ _. IsTrue false) s → SetsBits s t (λ w v. (world_at f v).parent ≡ Some w) → SetsBits t u (λ w v. Contains f.links (w, v)) → IsSquareOf (length f.worlds) (IsEdge L f) u
edges_linked L f s t u e a b g = record {
  count = g.count ∙ b.count ∙ a.count;
  joins = λ w v l k. (
    (λ x. elim (g.bits.only w v x) [
      | inl old ↦ elim (b.bits.only w v old) [ inl none ↦ absurd (false≢true ((a.joins w v l k).0 none)) | inr child ↦ inl child ]
      | inr link ↦ inr (e, link)
    ]),
    (λ x. elim x [ inl child ↦ g.bits.keeps w v (b.bits.adds w v child) | inr link ↦ g.bits.adds w v link.1 ]),
  );
}

-- what is completed is of the edges alone
path_map : (E D : ℕ → ℕ → Type 0) → ((w v : ℕ) → E w v → D w v) → (w : ℕ) (us : List ℕ) (v : ℕ) → IsPath E w us v → IsPath D w us v
path_map E D h w [] v p = h w v p
path_map E D h w (u ∷ us) v p = (h w u p.0, path_map E D h u us v p.1)

reaches_map : (E D : ℕ → ℕ → Type 0) → ((w v : ℕ) → E w v → D w v) → (w v : ℕ) → Reaches E w v → Reaches D w v
reaches_map E D h w v p = (p.0, path_map E D h w p.0 v p.1)

completed_map : (L : Logic) (E D : ℕ → ℕ → Type 0) → ((w v : ℕ) → E w v → D w v) → ((w v : ℕ) → D w v → E w v) → (w v : ℕ) → Completed L E w v → Completed L D w v
completed_map K E D h back w v x = h w v x
completed_map KT E D h back w v x = elim x [ inl e ↦ inl e | inr y ↦ inr (h w v y) ]
completed_map S4 E D h back w v x = elim x [ inl e ↦ inl e | inr y ↦ inr (reaches_map E D h w v y) ]
completed_map S5 E D h back w v x = tt
completed_map GL E D h back w v x = reaches_map E D h w v x
completed_map Grz E D h back w v x = elim x [ inl e ↦ inl e | inr y ↦ inr (reaches_map E D h w v y) ]
completed_map K4 E D h back w v x = reaches_map E D h w v x
completed_map KD E D h back w v x = elim x [ inl y ↦ inl (h w v y) | inr end ↦ inr (end.0, λ u d. end.1 u (back w u d)) ]

-- a square of edges, completed, is the relation that they are completed to
pub completed_square : (L : Logic) (n : ℕ) (E : ℕ → ℕ → Type 0) (s t : Square) → ((w v : ℕ) → E w v → (w < n) × (v < n)) → IsSquareOf n E s → IsSquareOf s.count (Completed L (Joins s)) t → IsSquareOf n (Completed L E) t
completed_square L n E s t ends a b = record {
  count = b.count ∙ a.count;
  joins = λ w v l k.
      let both = b.joins w v (let size : s.count ≡ n = a.count in omega arith) (let size : s.count ≡ n = a.count in omega arith) in
      (λ x. completed_map L (Joins s) E down up w v (both.0 x), λ x. both.1 (completed_map L E (Joins s) up down w v x));
}
  where
    down : (w v : ℕ) → Joins s w v → E w v
    down w v j =
        let size : s.count ≡ n = a.count in
        let first : w < s.count = j.0 in
        let second : v < s.count = j.1 in
        (a.joins w v (omega arith) (omega arith)).0 j

    up : (w v : ℕ) → E w v → Joins s w v
    up w v e = (a.joins w v (ends w v e).0 (ends w v e).1).1 e
