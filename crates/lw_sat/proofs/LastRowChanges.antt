-- Changes of the last row, one after another.
use Rattle.std.proofs.Common.{◌≡◌, ℕ, ◌+◌, ◌-◌, ◌*◌, ◌<◌, ◌≤◌, Bool, true, false, not, ◌&&◌, ◌||◌, Option, Some, [], ◌∷◌, length, get_or, eqb, ltb, refl, sym, ap, ◌∙◌, subst, ⊎_elim, arith}
use Rattle.std.proofs.lemmas.Bool.{cases_lt, cases_eq, eq-eqb, ne_eqb, lt-ltb, le-ltb}
use Rattle.std.proofs.lemmas.List.{get_or_past}
use Rattle.std.proofs.lemmas.List.Elements.{All-get_or}
use Rattle.lw_proof.specs.System.{Set}
use Rattle.lw_rows.specs.RowStack.{Region}
use Rattle.lw_sat.specs.Sets.{adding, either, without, top}
use Rattle.lw_sat.specs.Private.LastRow.{HasTop, Replaces}
use Rattle.lw_sat.specs.Moves.{listed}

-- a second change takes the place of the first
pub replaces_on : (r s u : Region) (X Y : Set ℕ) → Replaces r s X → Replaces s u Y → Replaces r u Y
replaces_on r s u X Y h k = record { there = k.there; top = k.top; lower = k.lower ∙ h.lower; width = k.width ∙ h.width }

pub replaces_as : (r s : Region) (X Y : Set ℕ) → X ≡ Y → Replaces r s X → Replaces r s Y
replaces_as r s X Y e h = subst (λ Z. Replaces r s Z) e h

or_pair : (a b x : Bool) → ((b || false) || ((a || false) || x)) ≡ ((a || (b || false)) || x)
or_pair true true x = refl
or_pair true false x = refl
or_pair false true x = refl
or_pair false false x = refl

pub and_pair : (a b x : Bool) → (not (b || false) && (not (a || false) && x)) ≡ (not (a || (b || false)) && x)
and_pair true true x = refl
and_pair true false x = refl
and_pair false true x = refl
and_pair false false x = refl

pub added_both : (r s u : Region) (p : ℕ × Option ℕ) (d : ℕ) → p.1 ≡ Some d →
    Replaces r s (adding (p.0 ∷ []) (top r)) → Replaces s u (adding (d ∷ []) (top s)) → Replaces r u (adding (listed p) (top r))
added_both r s u (c, o) d e h k =
    subst (λ o. Replaces r u (adding (listed (c, o)) (top r))) (sym e)
    (replaces_as r u (adding (d ∷ []) (top s)) (adding (c ∷ d ∷ []) (top r)) (ap (adding (d ∷ [])) h.top ∙ (λ j i. or_pair (eqb c i) (eqb d i) (top r i) j))
    (replaces_on r s u (adding (c ∷ []) (top r)) (adding (d ∷ []) (top s)) h k))

pub removed_both : (r s u : Region) (p : ℕ × Option ℕ) (d : ℕ) → p.1 ≡ Some d →
    Replaces r s (without (p.0 ∷ []) (top r)) → Replaces s u (without (d ∷ []) (top s)) → Replaces r u (without (listed p) (top r))
removed_both r s u (c, o) d e h k =
    subst (λ o. Replaces r u (without (listed (c, o)) (top r))) (sym e)
    (replaces_as r u (without (d ∷ []) (top s)) (without (c ∷ d ∷ []) (top r)) (ap (without (d ∷ [])) h.top ∙ (λ j i. and_pair (eqb c i) (eqb d i) (top r i) j))
    (replaces_on r s u (without (c ∷ []) (top r)) (without (d ∷ []) (top s)) h k))

-- Y with what X has below n
abbrev pub poured : Set ℕ → Set ℕ → ℕ → Set ℕ
poured X Y n i = (ltb i n && X i) || Y i

pub below_same : (i n : ℕ) → (n ≡ i → ⊥) → ltb i (n + 1) ≡ ltb i n
below_same i n apart =
    ⊎_elim
    (λ (l : i < n). lt-ltb i (n + 1) (omega arith) ∙ sym (lt-ltb i n l))
    (λ (l : n ≤ i). le-ltb i (n + 1) (let h : (i ≡ n → ⊥) = λ e. apart (sym e) in omega (arith, h)) ∙ sym (le-ltb i n l))
    (cases_lt i n)

one_more : (x f y : Bool) → x ≡ true → f ≡ true → ((x || false) || y) ≡ ((true && f) || y)
one_more x f y e g = ap (λ b. (b || false) || y) e ∙ sym (ap (λ b. (true && b) || y) g)

pub poured_more : (X Y : Set ℕ) (n : ℕ) → X n ≡ true → adding (n ∷ []) (poured X Y n) ≡ poured X Y (n + 1)
poured_more X Y n e = λ j i. at i j where
  at : (i : ℕ) → ((eqb n i || false) || ((ltb i n && X i) || Y i)) ≡ ((ltb i (n + 1) && X i) || Y i)
  at i =
      ⊎_elim
      (λ (same : n ≡ i).
      subst (λ i. ((eqb n i || false) || ((ltb i n && X i) || Y i)) ≡ ((ltb i (n + 1) && X i) || Y i)) same
      (ap (λ b. (b || false) || ((ltb n n && X n) || Y n)) (eq-eqb n n refl) ∙ sym (ap (λ b. (b && X n) || Y n) (lt-ltb n (n + 1) (omega arith)) ∙ ap (λ b. (true && b) || Y n) e)))
      (λ (apart : n ≡ i → ⊥). ap (λ b. (b || false) || ((ltb i n && X i) || Y i)) (ne_eqb n i apart) ∙ sym (ap (λ b. (b && X i) || Y i) (below_same i n apart)))
      (cases_eq n i)

pub poured_same : (X Y : Set ℕ) (n : ℕ) → X n ≡ false → poured X Y n ≡ poured X Y (n + 1)
poured_same X Y n e = λ j i. at i j where
  at : (i : ℕ) → ((ltb i n && X i) || Y i) ≡ ((ltb i (n + 1) && X i) || Y i)
  at i =
      ⊎_elim
      (λ (same : n ≡ i).
      subst (λ i. ((ltb i n && X i) || Y i) ≡ ((ltb i (n + 1) && X i) || Y i)) same
      (ap (λ b. (b && X n) || Y n) (le-ltb n n (omega arith)) ∙ sym (ap (λ b. (b && X n) || Y n) (lt-ltb n (n + 1) (omega arith)) ∙ ap (λ b. (true && b) || Y n) e)))
      (λ (apart : n ≡ i → ⊥). sym (ap (λ b. (b && X i) || Y i) (below_same i n apart)))
      (cases_eq n i)

-- a set has no number beyond its row
top_past : (r : Region) (i : ℕ) → HasTop r → 64 * r.width ≤ i → top r i ≡ false
top_past r i h past =
    let some = h.some in
    let long : length (get_or r.rows (length r.rows - 1) []) ≡ 64 * r.width = All-get_or (λ row. length row ≡ 64 * r.width) r.rows (length r.rows - 1) [] (omega arith) h.region.equal in
    get_or_past (get_or r.rows (length r.rows - 1) []) i false (omega (arith, long))

pub poured_none : (X Y : Set ℕ) → Y ≡ poured X Y 0
poured_none X Y = λ j i. sym (ap (λ b. (b && X i) || Y i) (le-ltb i 0 (omega arith))) j

pub poured_all : (r : Region) (Y : Set ℕ) (n : ℕ) → HasTop r → 64 * r.width ≤ n → poured (top r) Y n ≡ either (top r) Y
poured_all r Y n h long = λ j i. at i j where
  at : (i : ℕ) → ((ltb i n && top r i) || Y i) ≡ (top r i || Y i)
  at i =
      ⊎_elim
      (λ (l : i < n). ap (λ b. (b && top r i) || Y i) (lt-ltb i n l))
      (λ (l : n ≤ i). ap (λ b. (b && top r i) || Y i) (le-ltb i n l) ∙ sym (ap (λ b. b || Y i) (top_past r i h (omega (arith, l, long)))))
      (cases_lt i n)
