-- A model has one quotient: the numbers of its classes and the rest are determined.
use Rattle.std.proofs.Common.{◌≡◌, ℕ, ◌<◌, ◌≤◌, zero, suc, List, length, ⊎_elim, refl, subst, sym, ◌∙◌, arith}
use Rattle.std.proofs.lemmas.Bool.{cases_eq, cases_lt}
use Rattle.std.proofs.lemmas.List.{ext_get_or}
use Rattle.std.proofs.lemmas.List.Elements.{All-contains}
use Rattle.lw_formula.specs.FiniteModel.{FiniteModel, Sees, HasFact}
use Rattle.lw_bisim.specs.Quotient.{Quotient, IsQuotient, IsLeastOf, place_of}
use Rattle.lw_bisim.specs.Laws.{QuotientIsOne}

-- worlds of one class of a quotient are of one class of the other
same_class : (m : FiniteModel) (q r : Quotient) → IsQuotient m q → IsQuotient m r → (v u : ℕ) → v < m.worlds → u < m.worlds → place_of q.places v ≡ place_of q.places u → place_of r.places v ≡ place_of r.places u
same_class m q r h k v u l n e = (k.classes v u l n).1 ((h.classes v u l n).0 e)

-- the least world of a class of a quotient is that of its class of the other
same_least : (m : FiniteModel) (q r : Quotient) → IsQuotient m q → IsQuotient m r → (c d v w : ℕ) → v < m.worlds → place_of q.places v ≡ c → place_of r.places v ≡ d → IsLeastOf q.places c w → IsLeastOf r.places d w
same_least m q r h k c d v w l at to least =
    let wide : length q.places ≡ m.worlds = h.placed in
    let long : length r.places ≡ m.worlds = k.placed in
    let within : w < length q.places = least.within in
    let b : w < m.worlds = omega arith in record {
      within = omega arith;
      place = same_class m q r h k w v b l (least.place ∙ sym at) ∙ to;
      least = λ u before e. least.least u before (same_class m r q k h u v (omega arith) l (e ∙ sym to) ∙ at);
    }

-- where the worlds before it have the same class, a world has no lesser class in one quotient than in the other
not_less : (m : FiniteModel) (q r : Quotient) → IsQuotient m q → IsQuotient m r → (v : ℕ) → v < m.worlds → ((w : ℕ) → w < v → place_of q.places w ≡ place_of r.places w) → place_of q.places v < place_of r.places v → ⊥
not_less m q r h k v l before less =
    let wide : length q.places ≡ m.worlds = h.placed in
    let long : length r.places ≡ m.worlds = k.placed in
    let c = place_of q.places v in
    let d = place_of r.places v in
    let below : place_of q.places v < q.model.worlds = h.numbered.below v 0 (omega arith) in
    let under : place_of r.places v < r.model.worlds = k.numbered.below v 0 (omega arith) in
    let first = h.numbered.taken c below in
    let early : first.0 ≤ v = ⊎_elim (λ b. absurd (first.1.least v b refl)) (λ ge. ge) (cases_lt v first.0) in
    let other = k.numbered.taken c (omega arith) in
    let earlier : other.0 < first.0 = k.numbered.ordered c d other.0 first.0 other.1 (same_least m q r h k c d v first.0 l refl refl first.1) less in
    first.1.least other.0 earlier (before other.0 (omega arith) ∙ other.1.place)

same_places : (m : FiniteModel) (q r : Quotient) → IsQuotient m q → IsQuotient m r → (n v : ℕ) → v < n → v < m.worlds → place_of q.places v ≡ place_of r.places v
same_places m q r h k zero v l b = let bad : ⊥ = omega arith in absurd bad
same_places m q r h k (suc n) v l b =
    let before : (w : ℕ) → w < v → place_of q.places w ≡ place_of r.places w = λ w e. same_places m q r h k n w (omega arith) (omega arith) in
    ⊎_elim
    (λ e. e)
    (λ apart. ⊎_elim
    (λ less. absurd (not_less m q r h k v b before less))
    (λ ge. absurd (not_less m r q k h v b (λ w e. sym (before w e)) (omega (arith, apart))))
    (cases_lt (place_of q.places v) (place_of r.places v)))
    (cases_eq (place_of q.places v) (place_of r.places v))

places_same : (m : FiniteModel) (q r : Quotient) → IsQuotient m q → IsQuotient m r → q.places ≡ r.places
places_same m q r h k =
    let wide : length q.places ≡ m.worlds = h.placed in
    let long : length r.places ≡ m.worlds = k.placed in
    ext_get_or 0 q.places r.places (wide ∙ sym long) (λ v l. same_places m q r h k m.worlds v (omega arith) (omega arith))

-- a world of one quotient is one of the other
no_more : (m : FiniteModel) (q r : Quotient) → IsQuotient m q → IsQuotient m r → q.places ≡ r.places → q.model.worlds ≤ r.model.worlds
no_more m q r h k e =
    ⊎_elim
    (λ more.
    let t = h.numbered.taken r.model.worlds more in
    let place : place_of r.places t.0 ≡ r.model.worlds = subst (λ ps. place_of ps t.0 ≡ r.model.worlds) e t.1.place in
    let within : t.0 < length r.places = subst (λ ps. t.0 < length ps) e t.1.within in
    let below : place_of r.places t.0 < r.model.worlds = k.numbered.below t.0 0 within in
    let bad : ⊥ = omega arith in absurd bad)
    (λ le. le)
    (cases_lt r.model.worlds q.model.worlds)

fact_too : (m : FiniteModel) (q r : Quotient) → IsQuotient m q → IsQuotient m r → q.places ≡ r.places → (c : ℕ) (p : List ℕ) → HasFact q.model c p → HasFact r.model c p
fact_too m q r h k e c p f =
    let within : c < q.model.worlds = All-contains (λ g. g.0 < q.model.worlds) q.model.facts (c, p) h.well_formed.facts_within f in
    let t = h.numbered.taken c within in
    let wide : length q.places ≡ m.worlds = h.placed in
    let short : t.0 < length q.places = t.1.within in
    let b : t.0 < m.worlds = omega arith in
    let place : place_of r.places t.0 ≡ c = subst (λ ps. place_of ps t.0 ≡ c) e t.1.place in
    subst (λ d. HasFact r.model d p) place ((k.letters t.0 p b).1 ((h.letters t.0 p b).0 (subst (λ d. HasFact q.model d p) (sym t.1.place) f)))

sees_too : (m : FiniteModel) (q r : Quotient) → IsQuotient m q → IsQuotient m r → q.places ≡ r.places → (c d : ℕ) → Sees q.model c d → Sees r.model c d
sees_too m q r h k e c d s =
    let t = (h.sees c d).0 s in
    (k.sees c d).1 (t.0, t.1, t.2, subst (λ ps. place_of ps t.0 ≡ c) e t.3, subst (λ ps. place_of ps t.1 ≡ d) e t.4)

pub one_quotient : QuotientIsOne
one_quotient m q r h k =
    let e = places_same m q r h k in
    let few = no_more m q r h k e in
    let many = no_more m r q k h (sym e) in record {
      places = e;
      worlds = omega arith;
      sees = λ c d. (sees_too m q r h k e c d, sees_too m r q k h (sym e) c d);
      letters = λ c p. (fact_too m q r h k e c p, fact_too m r q k h (sym e) c p);
    }
