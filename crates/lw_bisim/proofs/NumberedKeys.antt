-- Numbers for keys, in the order of the first of each.
use Rattle.std.proofs.Common.{◌≡◌, ℕ, ◌+◌, ◌<◌, zero, suc, Bool, true, false, ◌||◌, cond, List, [], ◌∷◌, ◌++◌, length, get_or, slice_get, Some, ◌⊎◌, inl, inr, ⊎_elim, refl, ap, subst, sym, ◌∙◌, arith}
use Rattle.std.specs.Cmp.{IsEquivalence}
use Rattle.std.specs.List.{list_any}
use Rattle.std.proofs.lemmas.Bool.{cases_Bool, cases_lt, false≢true}
use Rattle.std.proofs.lemmas.List.{get_or_append_left, get_or_push, length_push}
use Rattle.std.proofs.lemmas.List.Elements.{All-push, All-weaker}
use Rattle.std.proofs.lemmas.Option.{get_or_from_slice_get}
use Rattle.indexmap.specs.IndexSet.{insert_key}
use Rattle.lw_bisim.specs.Quotient.{place_of, IsLeastOf, AreNumbered}
use Rattle.lw_bisim.specs.Private.Classes.{AreClassesBy}

-- one more place behind the others changes no other
place_before : (places : List ℕ) (p v : ℕ) → v < length places → place_of (places ++ p ∷ []) v ≡ place_of places v
place_before places p v l = get_or_append_left places (p ∷ []) 0 v l

place_last : (places : List ℕ) (p : ℕ) → place_of (places ++ p ∷ []) (length places) ≡ p
place_last places p = get_or_push places p 0 (length places) refl

-- the last of a longer list, or one of the others
last_or_before : (places : List ℕ) (p v : ℕ) → v < length (places ++ p ∷ []) → (v < length places) ⊎ (v ≡ length places)
last_or_before places p v l =
    ⊎_elim (λ b. inl b) (λ ge. inr (omega (arith, length_push places p))) (cases_lt v (length places))

-- the least world of a class stays so
least_stays : (places : List ℕ) (p c v : ℕ) → IsLeastOf places c v → IsLeastOf (places ++ p ∷ []) c v
least_stays places p c v h =
    let w : v < length places = h.within in record {
      within = omega (arith, length_push places p);
      place = place_before places p v w ∙ h.place;
      least = λ u l e. h.least u l (sym (place_before places p u (omega arith)) ∙ e);
    }

least_before : (places : List ℕ) (p c v : ℕ) → v < length places → IsLeastOf (places ++ p ∷ []) c v → IsLeastOf places c v
least_before places p c v w h = record {
  within = w;
  place = sym (place_before places p v w) ∙ h.place;
  least = λ u l e. h.least u l (place_before places p u (omega arith) ∙ e);
}

-- a class that is there again
numbered_again : (places : List ℕ) (count p : ℕ) → AreNumbered places count → p < count → AreNumbered (places ++ p ∷ []) count
numbered_again places count p h b = record {
  below = All-push (λ c. c < count) places p h.below b;
  taken = λ c l. let t = h.taken c l in (t.0, least_stays places p c t.0 t.1);
  ordered = λ c d v u x y l. h.ordered c d v u (old c v x) (old d u y) l;
}
  where
    old : (c v : ℕ) → IsLeastOf (places ++ p ∷ []) c v → IsLeastOf places c v
    old c v x = ⊎_elim
        (λ w. least_before places p c v w x)
        (λ at.
        let t = h.taken p b in
        let same : p ≡ c = sym (place_last places p) ∙ ap (place_of (places ++ p ∷ [])) (sym at) ∙ x.place in
        let w : t.0 < length places = t.1.within in
        absurd (x.least t.0 (omega arith) (place_before places p t.0 w ∙ t.1.place ∙ same)))
        (last_or_before places p v x.within)

-- a class that is new
numbered_new : (places : List ℕ) (count : ℕ) → AreNumbered places count → AreNumbered (places ++ count ∷ []) (count + 1)
numbered_new places count h = record {
  below = All-push (λ c. c < count + 1) places count (All-weaker (λ c. c < count) (λ c. c < count + 1) (λ c l. omega arith) places h.below) (omega arith);
  taken = λ c l. ⊎_elim
      (λ b. let t = h.taken c b in (t.0, least_stays places count c t.0 t.1))
      (λ ge. (length places, first c (omega arith)))
      (cases_lt c count);
  ordered = λ c d v u x y l. ⊎_elim
      (λ vl. ⊎_elim
      (λ ul. h.ordered c d v u (least_before places count c v vl x) (least_before places count d u ul y) l)
      (λ at. omega arith)
      (last_or_before places count u y.within))
      (λ at.
      let c_is : count ≡ c = sym (place_last places count) ∙ ap (place_of (places ++ count ∷ [])) (sym at) ∙ x.place in
      ⊎_elim
      (λ ul. let d_is : place_of places u ≡ d = sym (place_before places count u ul) ∙ y.place in let b : place_of places u < count = h.below u 0 ul in let bad : ⊥ = omega arith in absurd bad)
      (λ same. let d_is : count ≡ d = sym (place_last places count) ∙ ap (place_of (places ++ count ∷ [])) (sym same) ∙ y.place in let bad : ⊥ = omega arith in absurd bad)
      (last_or_before places count u y.within))
      (last_or_before places count v x.within);
}
  where
    first : (c : ℕ) → c ≡ count → IsLeastOf (places ++ count ∷ []) c (length places)
    first c e = record {
      within = omega (arith, length_push places count);
      place = place_last places count ∙ sym e;
      least = λ u l at.
          let b : place_of places u < count = h.below u 0 l in
          let is : place_of places u ≡ c = sym (place_before places count u l) ∙ at in
          omega arith;
    }

module _ {K : Type 0} (eq : K → K → Bool) (laws : IsEquivalence eq) where
  -- each key is equal to the known one at its place, and no two known ones are equal
  pub record AreNumberedBy (keys known : List K) (places : List ℕ) : Type 0 where
    pub long : length places ≡ length keys
    pub numbered : AreNumbered places (length known)
    pub known_at : (i : ℕ) (d : K) → i < length keys → eq (get_or keys i d) (get_or known (place_of places i) d) ≡ true
    pub apart : (i j : ℕ) (d : K) → i < length known → j < length known → eq (get_or known i d) (get_or known j d) ≡ true → i ≡ j

  trans : (x y z : K) → eq x y ≡ true → eq y z ≡ true → eq x z ≡ true
  trans x y z e f = laws.congr x y z e ∙ f

  -- no known key is equal to one that no test finds
  unknown : (known : List K) (k : K) → list_any (eq k) known ≡ false → (i : ℕ) (d : K) → i < length known → eq k (get_or known i d) ≡ true → ⊥
  unknown [] k none i d l e = omega arith
  unknown (x ∷ xs) k none zero d l e = first (eq k x) (list_any (eq k) xs) none e
    where
      first : (b c : Bool) → b || c ≡ false → b ≡ true → ⊥
      first true c n t = false≢true (sym n)
      first false c n t = false≢true t
  unknown (x ∷ xs) k none (suc i) d l e = unknown xs k (rest (eq k x) (list_any (eq k) xs) none) i d (omega arith) e
    where
      rest : (b c : Bool) → b || c ≡ false → c ≡ false
      rest true c n = absurd (false≢true (sym n))
      rest false c n = n

  -- what one more key does to the key at a place
  key_before : (keys : List K) (k : K) (i : ℕ) (d : K) → i < length keys → get_or (keys ++ k ∷ []) i d ≡ get_or keys i d
  key_before keys k i d l = get_or_append_left keys (k ∷ []) d i l

  key_last : (keys : List K) (k d : K) (i : ℕ) → i ≡ length keys → get_or (keys ++ k ∷ []) i d ≡ k
  key_last keys k d i e = get_or_push keys k d i (sym e)

  key_cases : (keys : List K) (k : K) (i : ℕ) → i < length (keys ++ k ∷ []) → (i < length keys) ⊎ (i ≡ length keys)
  key_cases keys k i l = ⊎_elim (λ b. inl b) (λ ge. inr (omega (arith, length_push keys k))) (cases_lt i (length keys))

  numbered_known : (keys known : List K) (places : List ℕ) (k : K) (p : ℕ) → AreNumberedBy keys known places → p < length known → ((d : K) → eq k (get_or known p d) ≡ true) → AreNumberedBy (keys ++ k ∷ []) known (places ++ p ∷ [])
  numbered_known keys known places k p h b same = record {
    long = omega (arith, h.long, length_push keys k, length_push places p);
    numbered = numbered_again places (length known) p h.numbered b;
    known_at = λ i d l. ⊎_elim
        (λ w.
        let at : place_of (places ++ p ∷ []) i ≡ place_of places i = place_before places p i (omega (arith, h.long)) in
        subst (λ x. eq x (get_or known (place_of (places ++ p ∷ []) i) d) ≡ true) (sym (key_before keys k i d w))
        (subst (λ x. eq (get_or keys i d) (get_or known x d) ≡ true) (sym at) (h.known_at i d w)))
        (λ last.
        let at : place_of (places ++ p ∷ []) i ≡ p = ap (place_of (places ++ p ∷ [])) (last ∙ sym h.long) ∙ place_last places p in
        subst (λ x. eq x (get_or known (place_of (places ++ p ∷ []) i) d) ≡ true) (sym (key_last keys k d i last))
        (subst (λ x. eq k (get_or known x d) ≡ true) (sym at) (same d)))
        (key_cases keys k i l);
    apart = h.apart;
  }

  numbered_unknown : (keys known : List K) (places : List ℕ) (k : K) → AreNumberedBy keys known places → list_any (eq k) known ≡ false → AreNumberedBy (keys ++ k ∷ []) (known ++ k ∷ []) (places ++ length known ∷ [])
  numbered_unknown keys known places k h none = record {
    long = omega (arith, h.long, length_push keys k, length_push places (length known));
    numbered = subst (λ n. AreNumbered (places ++ length known ∷ []) n) (sym (length_push known k)) (numbered_new places (length known) h.numbered);
    known_at = λ i d l. ⊎_elim
        (λ w.
        let v : i < length places = omega (arith, h.long) in
        let at : place_of (places ++ length known ∷ []) i ≡ place_of places i = place_before places (length known) i v in
        subst (λ x. eq x (get_or (known ++ k ∷ []) (place_of (places ++ length known ∷ []) i) d) ≡ true) (sym (key_before keys k i d w))
        (subst (λ x. eq (get_or keys i d) (get_or (known ++ k ∷ []) x d) ≡ true) (sym at)
        (subst (λ x. eq (get_or keys i d) x ≡ true) (sym (key_before known k (place_of places i) d (h.numbered.below i 0 v))) (h.known_at i d w))))
        (λ last.
        let at : place_of (places ++ length known ∷ []) i ≡ length known = ap (place_of (places ++ length known ∷ [])) (last ∙ sym h.long) ∙ place_last places (length known) in
        subst (λ x. eq x (get_or (known ++ k ∷ []) (place_of (places ++ length known ∷ []) i) d) ≡ true) (sym (key_last keys k d i last))
        (subst (λ x. eq k (get_or (known ++ k ∷ []) x d) ≡ true) (sym at)
        (subst (λ x. eq k x ≡ true) (sym (key_last known k d (length known) refl)) (laws.refl k))))
        (key_cases keys k i l);
    apart = λ i j d l m e. ⊎_elim
        (λ iw. ⊎_elim
        (λ jw. h.apart i j d iw jw (subst (λ x. eq x (get_or known j d) ≡ true) (key_before known k i d iw) (subst (λ x. eq (get_or (known ++ k ∷ []) i d) x ≡ true) (key_before known k j d jw) e)))
        (λ jl. absurd (unknown known k none i d iw
        (laws.symm k (get_or known i d) ∙ subst (λ x. eq x k ≡ true) (key_before known k i d iw) (subst (λ x. eq (get_or (known ++ k ∷ []) i d) x ≡ true) (key_last known k d j jl) e))))
        (key_cases known k j m))
        (λ il. ⊎_elim
        (λ jw. absurd (unknown known k none j d jw
        (subst (λ x. eq x (get_or known j d) ≡ true) (key_last known k d i il) (subst (λ x. eq (get_or (known ++ k ∷ []) i d) x ≡ true) (key_before known k j d jw) e))))
        (λ jl. il ∙ sym jl)
        (key_cases known k j m))
        (key_cases known k i l);
  }

  -- the key that a set gives a place
  pub numbered_more : (keys known new : List K) (places : List ℕ) (k : K) (p : ℕ) → AreNumberedBy keys known places → new ≡ insert_key eq known k → p < length new →
      (s : K) × (slice_get new p ≡ Some s) × (eq k s ≡ true) → AreNumberedBy (keys ++ k ∷ []) new (places ++ p ∷ [])
  numbered_more keys known new places k p h e l stored = ⊎_elim
      (λ there.
      let same : new ≡ known = e ∙ ap (λ b. cond b known (known ++ k ∷ [])) there in
      subst (λ ks. AreNumberedBy (keys ++ k ∷ []) ks (places ++ p ∷ [])) (sym same)
      (numbered_known keys known places k p h (subst (λ ks. p < length ks) same l) (λ d. subst (λ ks. eq k (get_or ks p d) ≡ true) same (at_place d))))
      (λ none.
      let more : new ≡ known ++ k ∷ [] = e ∙ ap (λ b. cond b known (known ++ k ∷ [])) none in
      let last : p ≡ length known = ⊎_elim
      (λ b. absurd (unknown known k none p k b (subst (λ x. eq k x ≡ true) (key_before known k p k b) (subst (λ ks. eq k (get_or ks p k) ≡ true) more (at_place k)))))
      (λ at. at)
      (key_cases known k p (subst (λ ks. p < length ks) more l)) in
      subst (λ n. AreNumberedBy (keys ++ k ∷ []) new (places ++ n ∷ [])) (sym last)
      (subst (λ ks. AreNumberedBy (keys ++ k ∷ []) ks (places ++ length known ∷ [])) (sym more) (numbered_unknown keys known places k h none)))
      (cases_Bool (list_any (eq k) known))
    where
      at_place : (d : K) → eq k (get_or new p d) ≡ true
      at_place d = subst (λ x. eq k x ≡ true) (sym (get_or_from_slice_get new p stored.0 d stored.1)) stored.2

  -- where all are numbered, those with equal keys are of one class
  pub numbered_all : (keys known : List K) (places : List ℕ) → AreNumberedBy keys known places → AreClassesBy eq keys places (length known)
  numbered_all keys known places h = record {
    placed = h.long;
    numbered = h.numbered;
    classes = λ i j l m. (
      λ e d.
          trans (get_or keys i d) (get_or known (place_of places i) d) (get_or keys j d) (h.known_at i d l)
          (laws.symm (get_or known (place_of places i) d) (get_or keys j d) ∙ subst (λ p. eq (get_or keys j d) (get_or known p d) ≡ true) (sym e) (h.known_at j d m)),
      λ same. let d = get_or keys i (some keys i l) in
          h.apart (place_of places i) (place_of places j) d (h.numbered.below i 0 (omega (arith, h.long))) (h.numbered.below j 0 (omega (arith, h.long)))
          (trans (get_or known (place_of places i) d) (get_or keys i d) (get_or known (place_of places j) d)
          (laws.symm (get_or known (place_of places i) d) (get_or keys i d) ∙ h.known_at i d l)
          (trans (get_or keys i d) (get_or keys j d) (get_or known (place_of places j) d) (same d) (h.known_at j d m))),
    );
  }
    where
      some : (xs : List K) (i : ℕ) → i < length xs → K
      some [] i l = let bad : ⊥ = omega arith in absurd bad
      some (x ∷ xs) i l = x
