-- The sets that lists of ids stand for.
use Rattle.std.proofs.Common.{◌≡◌, ◌↔◌, Bool, true, false, ◌||◌, List, [], ◌∷◌, ◌++◌, length, take, map, inl, inr, Option, None, Some, refl, sym, ap, subst, append_assoc, ◌∙◌}
use Rattle.std.specs.Bool.{Decides, IsTrue}
use Rattle.std.specs.List.{Contains, list_any}
use Rattle.std.specs.Option.{option_map}
use Rattle.std.proofs.Math.Bool.{or_comm, or_assoc, or-false}
use Rattle.std.proofs.lemmas.Bool.{false_from_ne_true, or_left, or_right}
use Rattle.std.proofs.lemmas.List.{map-append, take_at, append-nil}
use Rattle.std.proofs.lemmas.List.Elements.{All-head, All-tail, All-push}
use Rattle.std.proofs.lemmas.List.Folds.{list_any-append}
use Rattle.lw_formula.specs.Formula.{Formula}
use Rattle.lw_formula.specs.Signed.{Signed}
use Rattle.lw_formula.proofs.ListMembers.{Contains-nil, Contains-cons_cases}
use Rattle.lw_formula.proofs.ListTests.{list_any-Contains}
use Rattle.lw_pool.specs.declared.id.SignedId.{SignedId}
use Rattle.lw_pool.specs.Region.{IsLive, AreIdsExact, signed_at}
use Rattle.lw_proof.specs.System.{trees, same_signed}
use Rattle.lw_proof.specs.Derivation.{side, plus}
use Rattle.lw_proof.specs.SignedIds.{Adds}
use Rattle.lw_proof.proofs.SignedIdLists.{id_eq, id_eq-Decides}
use Rattle.lw_proof.proofs.SignedMeaning.{same_signed-Decides}
use Rattle.lw_sets.specs.IdSets.{set_of, AreLive, AddsAll, side_at, with_side}

-- the members of two lists
pub set_of-append : (ts : List Formula) (xs ys : List SignedId) (s : Signed) → set_of ts (xs ++ ys) s ≡ (set_of ts xs s || set_of ts ys s)
set_of-append ts xs ys s =
    ap (λ (cs : List Signed). list_any (λ c. same_signed c s) cs) (map-append (signed_at ts) xs ys)
    ∙ list_any-append (λ c. same_signed c s) (map (signed_at ts) xs) (map (signed_at ts) ys)

-- the set has the signed formula of each id
set_of-member : (ts : List Formula) (xs : List SignedId) (x : SignedId) → Contains xs x → set_of ts xs (signed_at ts x) ≡ true
set_of-member ts [] x h = absurd (Contains-nil x h)
set_of-member ts (y ∷ ys) x h = elim (Contains-cons_cases y ys x h) [
  | inl e ↦ ap (λ b. b || set_of ts ys (signed_at ts x)) ((same_signed-Decides (signed_at ts y) (signed_at ts x)).1 (ap (signed_at ts) e))
  | inr rest ↦ or_right (same_signed (signed_at ts y) (signed_at ts x)) (set_of ts ys (signed_at ts x)) (set_of-member ts ys x rest)
]

-- a member that is added makes no difference
already : (ts : List Formula) (xs : List SignedId) (x : SignedId) → Contains xs x → (s : Signed) → set_of ts xs s ≡ (set_of ts xs s || same_signed (signed_at ts x) s)
already ts xs x h s = by (same_signed (signed_at ts x) s) refl
  where
    by : (b : Bool) → same_signed (signed_at ts x) s ≡ b → set_of ts xs s ≡ (set_of ts xs s || b)
    by true e =
        let is : set_of ts xs s ≡ true = subst (λ t. set_of ts xs t ≡ true) ((same_signed-Decides (signed_at ts x) s).0 e) (set_of-member ts xs x h) in
        is ∙ sym (or_left (set_of ts xs s) true is)
    by false e = sym (or-false (set_of ts xs s))

set_of-added : (ts : List Formula) (old new : List SignedId) (x : SignedId) → Adds old new x → (s : Signed) →
    set_of ts new s ≡ (set_of ts old s || same_signed (signed_at ts x) s)
set_of-added ts old new x (inl h) s = ap (λ xs. set_of ts xs s) h.1 ∙ already ts old x h.0 s
set_of-added ts old new x (inr h) s =
    ap (λ xs. set_of ts xs s) h.1 ∙ set_of-append ts old (x ∷ []) s
    ∙ ap (λ b. set_of ts old s || b) (or-false (same_signed (signed_at ts x) s))

-- the members of a list to which others were added
pub set_of-added_all : (ts : List Formula) (old new xs : List SignedId) → AddsAll old new xs → (s : Signed) → set_of ts new s ≡ (set_of ts old s || set_of ts xs s)
set_of-added_all ts old new [] h s = ap (λ ys. set_of ts ys s) h ∙ sym (or-false (set_of ts old s))
set_of-added_all ts old new (x ∷ xs) h s =
    set_of-added_all ts h.0 new xs h.2 s
    ∙ ap (λ b. b || set_of ts xs s) (set_of-added ts old h.0 x h.1 s)
    ∙ or_assoc (set_of ts old s) (same_signed (signed_at ts x) s) (set_of ts xs s)

-- what is added goes behind what was there
behind : (old new xs : List SignedId) → AddsAll old new xs → (ys : List SignedId) × (new ≡ old ++ ys)
behind old new [] h = ([], h ∙ sym (append-nil old))
behind old new (x ∷ xs) (mid, inl here, rest) = let r = behind mid new xs rest in (r.0, r.1 ∙ ap (λ l. l ++ r.0) here.1)
behind old new (x ∷ xs) (mid, inr away, rest) =
    let r = behind mid new xs rest in
    (x ∷ r.0, r.1 ∙ ap (λ l. l ++ r.0) away.1 ∙ append_assoc old (x ∷ []) r.0)

-- so cutting the list to its old length gives the old one back
pub cut_back : (old new xs : List SignedId) → AddsAll old new xs → take (length old) new ≡ old
cut_back old new xs h = let r = behind old new xs h in ap (take (length old)) r.1 ∙ take_at old r.0 (length old) refl

pub added_live : (now : List Formula) (old new xs : List SignedId) → AddsAll old new xs → AreLive now old → AreLive now xs → AreLive now new
added_live now old new [] h l m = subst (AreLive now) (sym h) l
added_live now old new (x ∷ xs) h l m =
    added_live now h.0 new xs h.2 (one h.0 h.1) (All-tail (λ (y : SignedId). IsLive now y.form) x xs m)
  where
    one : (mid : List SignedId) → Adds old mid x → AreLive now mid
    one mid (inl here) = subst (AreLive now) (sym here.1) l
    one mid (inr away) = subst (AreLive now) (sym away.1) (All-push (λ (y : SignedId). IsLive now y.form) old x l (All-head (λ (y : SignedId). IsLive now y.form) x xs m))

-- what is added to the empty set is all
pub added_first : (new : List SignedId) (x : SignedId) → Adds [] new x → new ≡ x ∷ []
added_first new x (inl here) = absurd (Contains-nil x here.0)
added_first new x (inr away) = away.1

side_mapped : (ts : List Formula) (a : SignedId) (b : Option SignedId) → map (signed_at ts) (side a b) ≡ side_at ts (a, b)
side_mapped ts a None = refl
side_mapped ts a (Some b) = refl

pub side_parts : (ts : List Formula) (a : SignedId) (o : Option SignedId) → side_at ts (a, o) ≡ side (signed_at ts a) (option_map (signed_at ts) o)
side_parts ts a None = refl
side_parts ts a (Some b) = refl

-- a side that is added to a list is added to its set
pub set_of_side : (ts : List Formula) (old new : List SignedId) (p : SignedId × Option SignedId) → AddsAll old new (side p.0 p.1) → set_of ts new ≡ with_side old p ts
set_of_side ts old new (a, b) h = λ i s. at_each s i
  where
    at_each : (s : Signed) → set_of ts new s ≡ plus trees (side_at ts (a, b)) (set_of ts old) s
    at_each s =
        set_of-added_all ts old new (side a b) h s
        ∙ ap (λ (cs : List Signed). set_of ts old s || list_any (λ c. same_signed c s) cs) (side_mapped ts a b)
        ∙ or_comm (set_of ts old s) (list_any (λ c. same_signed c s) (side_at ts (a, b)))

-- two tests of one fact agree
pub Decides_alike : {P Q : Type 0} (b c : Bool) → Decides b P → Decides c Q → (P → Q) → (Q → P) → b ≡ c
Decides_alike true c p q f g = sym (q.1 (f (p.0 refl)))
Decides_alike false c p q f g = sym (false_from_ne_true c (λ e. clash (p.1 (g (q.0 e)))))
  where
    clash : false ≡ true → ⊥
    clash e = cc

-- ids of one pool are equal where their signed formulas are
same_ids : (ts : List Formula) → AreIdsExact ts → (x y : SignedId) → IsLive ts x.form → IsLive ts y.form → signed_at ts x ≡ signed_at ts y → x ≡ y
same_ids ts exact x y l m e = λ i. record { sign = (e i).0; form = exact x.form y.form l m (ap (λ (s : Signed). s.1) e) i }

module _ (ts : List Formula) (exact : AreIdsExact ts) (y : SignedId) (live : IsLive ts y.form) where
  same_at : (x : SignedId) → IsLive ts x.form → id_eq x y ≡ same_signed (signed_at ts x) (signed_at ts y)
  same_at x l =
      Decides_alike (id_eq x y) (same_signed (signed_at ts x) (signed_at ts y))
      (id_eq-Decides x y) (same_signed-Decides (signed_at ts x) (signed_at ts y))
      (λ e. ap (signed_at ts) e)
      (λ e. same_ids ts exact x y l live e)

  -- a test of equal ids finds what the set has
  set_of_test : (xs : List SignedId) → AreLive ts xs → list_any (λ x. id_eq x y) xs ≡ set_of ts xs (signed_at ts y)
  set_of_test [] l = refl
  set_of_test (x ∷ xs) l = λ i.
      same_at x (All-head (λ (z : SignedId). IsLive ts z.form) x xs l) i
      || set_of_test xs (All-tail (λ (z : SignedId). IsLive ts z.form) x xs l) i

  -- so the set has the signed formula of an id exactly where the list has the id
  pub set_of-Contains : (xs : List SignedId) → AreLive ts xs → (b : Bool) → IsTrue b ↔ Contains xs y → b ≡ set_of ts xs (signed_at ts y)
  set_of-Contains xs l b told =
      Decides_alike b (list_any (λ x. id_eq x y) xs) told (list_any-Contains (λ x. id_eq x y) y (λ x. id_eq-Decides x y) xs) (λ h. h) (λ h. h)
      ∙ set_of_test xs l
