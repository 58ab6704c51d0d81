-- Models that grow by what classes of worlds see and by their letters.
use Rattle.std.proofs.Common.{◌≡◌, ℕ, ◌+◌, ◌<◌, List, [], ◌∷◌, ◌++◌, length, get_or, take, ◌⊎◌, ◌↔◌, inl, inr, ⊎_elim, refl, ap, sym, subst, ◌∙◌, arith}
use Rattle.std.specs.List.{Contains}
use Rattle.std.proofs.lemmas.Bool.{cases_eq}
use Rattle.std.proofs.lemmas.List.{take_more}
use Rattle.std.proofs.lemmas.List.Elements.{Contains-append_left, Contains-push, Contains-push_cases}
use Rattle.lw_formula.specs.FiniteModel.{FiniteModel, Sees, HasFact}
use Rattle.lw_model.specs.Edits.{AddsPair, AddsFact}
use Rattle.lw_bisim.specs.Quotient.{place_of}
use Rattle.lw_bisim.specs.Private.Joined.{AddsSeen, AddsNames, IsJoinedTo}

-- the members of a list with one more at its end
more_members : {X : Type 0} (xs : List X) (i : ℕ) (d x : X) → i < length xs → Contains (take (i + 1) xs) x ↔ (Contains (take i xs) x ⊎ (get_or xs i d ≡ x))
more_members xs i d x l = (
  λ h. Contains-push_cases (take i xs) (get_or xs i d) x (subst (λ ys. Contains ys x) (take_more xs i d l) h),
  λ h. subst (λ ys. Contains ys x) (sym (take_more xs i d l))
      (⊎_elim
      (λ old. Contains-append_left (take i xs) (get_or xs i d ∷ []) x old)
      (λ new. subst (Contains (take i xs ++ get_or xs i d ∷ [])) new (Contains-push (take i xs) (get_or xs i d)))
      h),
)

-- a letter more
pub names_more : (m k j : FiniteModel) (c i : ℕ) (names : List (List ℕ)) (d : List ℕ) → AddsNames m c (take i names) k → i < length names → AddsFact k c (get_or names i d) j → AddsNames m c (take (i + 1) names) j
names_more m k j c i names d a l h = record {
  worlds = h.worlds ∙ a.worlds;
  pairs = h.pairs ∙ a.pairs;
  facts = λ b p. (
    λ x. ⊎_elim
        (λ old. ⊎_elim (λ first. inl first) (λ new. inr (new.0, (more_members names i d p l).1 (inl new.1))) ((a.facts b p).0 old))
        (λ new. inr (new.0, (more_members names i d p l).1 (inr new.1)))
        ((h.relation b p).0 x),
    λ x. ⊎_elim
        (λ first. (h.relation b p).1 (inl ((a.facts b p).1 (inl first))))
        (λ new. ⊎_elim
        (λ old. (h.relation b p).1 (inl ((a.facts b p).1 (inr (new.0, old)))))
        (λ last. (h.relation b p).1 (inr (new.0, last)))
        ((more_members names i d p l).0 new.1))
        x,
  );
}

module _ (places : List ℕ) where
  -- the class of a world more
  pub seen_more : (m k j : FiniteModel) (c i : ℕ) (seen : List ℕ) → AddsSeen places m c (take i seen) k → i < length seen → AddsPair k c (place_of places (get_or seen i 0)) j → AddsSeen places m c (take (i + 1) seen) j
  seen_more m k j c i seen a l h = record {
    worlds = h.worlds ∙ a.worlds;
    facts = h.facts ∙ a.facts;
    sees = λ b e. (
      λ x. ⊎_elim
          (λ old. ⊎_elim
          (λ first. inl first)
          (λ new. inr (new.0, (new.1.0, (more_members seen i 0 new.1.0 l).1 (inl new.1.1), new.1.2)))
          ((a.sees b e).0 old))
          (λ new. inr (new.0, (get_or seen i 0, (more_members seen i 0 (get_or seen i 0) l).1 (inr refl), new.1)))
          ((h.relation b e).0 x),
      λ x. ⊎_elim
          (λ first. (h.relation b e).1 (inl ((a.sees b e).1 (inl first))))
          (λ new. ⊎_elim
          (λ old. (h.relation b e).1 (inl ((a.sees b e).1 (inr (new.0, (new.1.0, old, new.1.2))))))
          (λ last. (h.relation b e).1 (inr (new.0, ap (place_of places) last ∙ new.1.2)))
          ((more_members seen i 0 new.1.0 l).0 new.1.1))
          x,
    );
  }

-- a world more, with its class
pub joined_more : (m : FiniteModel) (places : List ℕ) (count i c : ℕ) (j k l : FiniteModel) (ws : List ℕ) (names : List (List ℕ)) → IsJoinedTo m places count i j → place_of places i ≡ c →
    ((w : ℕ) → Contains ws w ↔ Sees m i w) → ((p : List ℕ) → Contains names p ↔ HasFact m i p) → AddsSeen places j c ws k → AddsNames k c names l → IsJoinedTo m places count (i + 1) l
joined_more m places count i c j k l ws names h at seen named a b = record {
  worlds = b.worlds ∙ a.worlds ∙ h.worlds;
  sees = λ e d. (
    λ x. ⊎_elim
        (λ old. let t = (h.sees e d).0 old in let b : t.0 < i = t.2 in (t.0, t.1, omega arith, t.3, t.4, t.5))
        (λ new. (i, new.1.0, omega arith, (seen new.1.0).0 new.1.1, at ∙ new.0, new.1.2))
        ((a.sees e d).0 (subst (λ ps. Contains ps (e, d)) b.pairs x)),
    λ t. subst (λ ps. Contains ps (e, d)) (sym b.pairs)
        (⊎_elim
        (λ here. (a.sees e d).1 (inr (sym at ∙ ap (place_of places) (sym here) ∙ t.4, (t.1, (seen t.1).1 (subst (λ v. Sees m v t.1) here t.3), t.5))))
        (λ other. (a.sees e d).1 (inl ((h.sees e d).1 (t.0, t.1, (let b : t.0 < i + 1 = t.2 in omega arith), t.3, t.4, t.5))))
        (cases_eq t.0 i)),
  );
  facts = λ e p. (
    λ x. ⊎_elim
        (λ old. let t = (h.facts e p).0 (subst (λ fs. Contains fs (e, p)) a.facts old) in let b : t.0 < i = t.1 in (t.0, omega arith, t.2, t.3))
        (λ new. (i, omega arith, (named p).0 new.1, at ∙ new.0))
        ((b.facts e p).0 x),
    λ t. ⊎_elim
        (λ here. (b.facts e p).1 (inr (sym at ∙ ap (place_of places) (sym here) ∙ t.3, (named p).1 (subst (λ v. HasFact m v p) here t.2))))
        (λ other. (b.facts e p).1 (inl (subst (λ fs. Contains fs (e, p)) (sym a.facts) ((h.facts e p).1 (t.0, (let b : t.0 < i + 1 = t.1 in omega arith), t.2, t.3)))))
        (cases_eq t.0 i),
  );
}
