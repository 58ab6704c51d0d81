-- Squares of bits: what setting some of them adds, and their transitive closure.
use Rattle.std.proofs.Common.{◌≡◌, ℕ, ◌+◌, ◌*◌, ◌/◌, ◌<◌, true, false, [], length, get_or, set, ◌⊎◌, inl, inr, refl, ap, sym, subst, ◌∙◌, arith, get_or-set_same, get_or-set_other}
use Rattle.std.proofs.lemmas.Bool.{cases_lt, cases_eq}
use Rattle.std.proofs.lemmas.Nat.{div-mul-add}
use Rattle.lw_counter.specs.FragmentPaths.{Reaches}
use Rattle.lw_counter.specs.Private.BuiltRelation.{Square, Joins, Adds, SetsBits, IsSquareOf}
use Rattle.lw_counter.proofs.EdgePaths.{reaches_join, reaches_within}

-- the place of a bit
pub index_below : (n w v : ℕ) → w < n → v < n → w * n + v < n * n
index_below n w v l k = grind arith

pub index_once : (n w v a b : ℕ) → v < n → b < n → w * n + v ≡ a * n + b → (w ≡ a) × (v ≡ b)
index_once n w v a b l k e =
    let row : w ≡ a = sym (div-mul-add w n v l) ∙ ap (λ i. i / n) e ∙ div-mul-add a n b k in
    let same : a * n + v ≡ a * n + b = subst (λ u. u * n + v ≡ a * n + b) row e in
    (row, omega arith)

-- one bit is set
pub set_bit : (s : Square) (w v : ℕ) → w < s.count → v < s.count → length s.bits ≡ s.count * s.count → SetsBits s (record { count = s.count; bits = set s.bits (w * s.count + v) true }) (λ a b. (a ≡ w) × (b ≡ v))
set_bit s w v l k size = record {
  count = refl;
  bits = record {
    keeps = λ a b h. (h.0, h.1, kept a b h.2);
    adds = λ a b e. (subst (λ u. u < s.count) (sym e.0) l, subst (λ u. u < s.count) (sym e.1) k, at_place a b (λ i. e.0 i * s.count + e.1 i));
    only = λ a b h. elim (cases_eq (a * s.count + b) (w * s.count + v)) [
      | inl e ↦ inr (index_once s.count a b w v h.1 k e)
      | inr n ↦ inl (h.0, h.1, sym (get_or-set_other s.bits (w * s.count + v) (a * s.count + b) true false n) ∙ h.2)
    ];
  };
}
  where
    within : w * s.count + v < length s.bits
    within = subst (λ u. w * s.count + v < u) (sym size) (index_below s.count w v l k)

    at_place : (a b : ℕ) → a * s.count + b ≡ w * s.count + v → get_or (set s.bits (w * s.count + v) true) (a * s.count + b) false ≡ true
    at_place a b e = ap (λ i. get_or (set s.bits (w * s.count + v) true) i false) e ∙ get_or-set_same s.bits (w * s.count + v) true false within

    kept : (a b : ℕ) → get_or s.bits (a * s.count + b) false ≡ true → get_or (set s.bits (w * s.count + v) true) (a * s.count + b) false ≡ true
    kept a b h = elim (cases_eq (a * s.count + b) (w * s.count + v)) [
      | inl e ↦ at_place a b e
      | inr n ↦ get_or-set_other s.bits (w * s.count + v) (a * s.count + b) true false n ∙ h
    ]

-- nothing was added to a relation that has all of it
pub adds_same : {X Y : Type 0} (A P : X → Y → Type 0) → ((a : X) (b : Y) → P a b → A a b) → Adds A A P
adds_same A P h = record { keeps = λ a b x. x; adds = h; only = λ a b x. inl x }

-- one addition after another
pub adds_then : {X Y : Type 0} (A B C P Q R : X → Y → Type 0) → Adds A B P → Adds B C Q → ((a : X) (b : Y) → P a b → R a b) → ((a : X) (b : Y) → Q a b → R a b) → ((a : X) (b : Y) → R a b → P a b ⊎ Q a b) → Adds A C R
adds_then A B C P Q R f g first second back = record {
  keeps = λ a b x. g.keeps a b (f.keeps a b x);
  adds = λ a b x. elim (back a b x) [ inl p ↦ g.keeps a b (f.adds a b p) | inr q ↦ g.adds a b q ];
  only = λ a b x. elim (g.only a b x) [
    | inl y ↦ elim (f.only a b y) [ inl z ↦ inl z | inr p ↦ inr (first a b p) ]
    | inr q ↦ inr (second a b q)
  ];
}

-- the same addition in other words
pub adds_as : {X Y : Type 0} (A B P R : X → Y → Type 0) → Adds A B P → ((a : X) (b : Y) → P a b → R a b) → ((a : X) (b : Y) → R a b → P a b ⊎ B a b) → Adds A B R
adds_as A B P R f there back = record {
  keeps = f.keeps;
  adds = λ a b x. elim (back a b x) [ inl p ↦ f.adds a b p | inr y ↦ y ];
  only = λ a b x. elim (f.only a b x) [ inl y ↦ inl y | inr p ↦ inr (there a b p) ];
}

-- the last of the numbers below i + 1, or an earlier one
pub last_or : (i n : ℕ) → n < i + 1 → (n < i) ⊎ (n ≡ i)
last_or i n l = elim (cases_lt n i) [ inl k ↦ inl k | inr k ↦ inr (omega arith) ]

-- the loop over the diagonal
abbrev pub Loops : ℕ → ℕ → ℕ → Type 0
Loops i w v = (w < i) × (w ≡ v)

pub loops_more : (s t u : Square) (i : ℕ) → SetsBits s t (Loops i) → SetsBits t u (λ w v. (w ≡ i) × (v ≡ i)) → SetsBits s u (Loops (i + 1))
loops_more s t u i f g = record {
  count = g.count ∙ f.count;
  bits = adds_then (Joins s) (Joins t) (Joins u) (Loops i) (λ w v. (w ≡ i) × (v ≡ i)) (Loops (i + 1)) f.bits g.bits
      (λ w v x. (omega arith, x.1))
      (λ w v x. (omega arith, x.0 ∙ sym x.1))
      (λ w v x. elim (last_or i w x.0) [ inl l ↦ inl (l, x.1) | inr e ↦ inr (e, sym x.1 ∙ e) ]);
}

-- the loop over the diagonal that passes over what is related to some
abbrev pub Ends : Square → ℕ → ℕ → ℕ → Type 0
Ends s i w v = (w < i) × (w ≡ v) × ((u : ℕ) → ¬ Joins s w u)

-- what was related to none before is so still at its turn
pub ends_old : (s t : Square) (i : ℕ) → SetsBits s t (Ends s i) → ¬ ((v : ℕ) × Joins t i v) → (u : ℕ) → ¬ Joins s i u
ends_old s t i f none u j = none (u, f.bits.keeps i u j)

pub ends_more : (s t u : Square) (i : ℕ) → SetsBits s t (Ends s i) → ¬ ((v : ℕ) × Joins t i v) → SetsBits t u (λ w v. (w ≡ i) × (v ≡ i)) → SetsBits s u (Ends s (i + 1))
ends_more s t u i f none g = record {
  count = g.count ∙ f.count;
  bits = adds_then (Joins s) (Joins t) (Joins u) (Ends s i) (λ w v. (w ≡ i) × (v ≡ i)) (Ends s (i + 1)) f.bits g.bits
      (λ w v x. (omega arith, x.1, x.2))
      (λ w v x. (omega arith, x.0 ∙ sym x.1, subst (λ k. (z : ℕ) → ¬ Joins s k z) (sym x.0) (ends_old s t i f none)))
      (λ w v x. elim (last_or i w x.0) [ inl l ↦ inl (l, x.1, x.2) | inr e ↦ inr (e, sym x.1 ∙ e) ]);
}

pub ends_skip : (s t : Square) (i : ℕ) → SetsBits s t (Ends s i) → (v : ℕ) × Joins t i v → SetsBits s t (Ends s (i + 1))
ends_skip s t i f some = record {
  count = f.count;
  bits = adds_as (Joins s) (Joins t) (Ends s i) (Ends s (i + 1)) f.bits
      (λ w v x. (omega arith, x.1, x.2))
      (λ w v x. elim (last_or i w x.0) [
        | inl l ↦ inl (l, x.1, x.2)
        | inr e ↦ absurd (elim (f.bits.only i some.0 some.1) [
          | inl old ↦ subst (λ k. (z : ℕ) → ¬ Joins s k z) e x.2 some.0 old
          | inr new ↦ (let bad : i < i = new.0 in omega arith)
        ])
      ]);
}

pub ends_end : (s t : Square) (n : ℕ) → SetsBits s t (Ends s n) → n ≡ s.count → SetsBits s t (λ w v. (w < s.count) × (w ≡ v) × ((u : ℕ) → ¬ Joins s w u))
ends_end s t n f e = record {
  count = f.count;
  bits = adds_as (Joins s) (Joins t) (Ends s n) (λ w v. (w < s.count) × (w ≡ v) × ((u : ℕ) → ¬ Joins s w u)) f.bits
      (λ w v x. (omega arith, x.1, x.2))
      (λ w v x. (let l : w < s.count = x.0 in inl (omega arith, x.1, x.2)));
}

-- the loop that looks for one
abbrev pub HasNoneBelow : Square → ℕ → ℕ → Type 0
HasNoneBelow s from i = (v : ℕ) → v < i → ¬ Joins s from v

-- the loop over a row
abbrev pub InRow : Square → ℕ → ℕ → ℕ → ℕ → ℕ → Type 0
InRow s from other i w v = (w ≡ from) × (v < i) × Joins s other v

-- what the other row has at i it had at the start
row_old : (s t : Square) (from other i : ℕ) → SetsBits s t (InRow s from other i) → Joins t other i → Joins s other i
row_old s t from other i f j = elim (f.bits.only other i j) [ inl old ↦ old | inr new ↦ (let l : i < i = new.1 in absurd (omega arith)) ]

pub row_more : (s t u : Square) (from other i : ℕ) → SetsBits s t (InRow s from other i) → Joins t other i → SetsBits t u (λ w v. (w ≡ from) × (v ≡ i)) → SetsBits s u (InRow s from other (i + 1))
row_more s t u from other i f j g = record {
  count = g.count ∙ f.count;
  bits = adds_then (Joins s) (Joins t) (Joins u) (InRow s from other i) (λ w v. (w ≡ from) × (v ≡ i)) (InRow s from other (i + 1)) f.bits g.bits
      (λ w v x. (x.0, omega arith, x.2))
      (λ w v x. (x.0, omega arith, subst (Joins s other) (sym x.1) (row_old s t from other i f j)))
      (λ w v x. elim (last_or i v x.1) [ inl l ↦ inl (x.0, l, x.2) | inr e ↦ inr (x.0, e) ]);
}

pub row_skip : (s t : Square) (from other i : ℕ) → SetsBits s t (InRow s from other i) → ¬ Joins t other i → SetsBits s t (InRow s from other (i + 1))
row_skip s t from other i f none = record {
  count = f.count;
  bits = adds_as (Joins s) (Joins t) (InRow s from other i) (InRow s from other (i + 1)) f.bits
      (λ w v x. (x.0, omega arith, x.2))
      (λ w v x. elim (last_or i v x.1) [ inl l ↦ inl (x.0, l, x.2) | inr e ↦ absurd (none (f.bits.keeps other i (subst (Joins s other) e x.2))) ]);
}

pub row_end : (s t : Square) (from other n : ℕ) → SetsBits s t (InRow s from other n) → n ≡ s.count → SetsBits s t (λ w v. (w ≡ from) × Joins s other v)
row_end s t from other n f e = record {
  count = f.count;
  bits = adds_as (Joins s) (Joins t) (InRow s from other n) (λ w v. (w ≡ from) × Joins s other v) f.bits
      (λ w v x. (x.0, x.2))
      (λ w v x. inl (x.0, subst (λ k. v < k) (sym e) x.1.1, x.1));
}

-- the loop over the rows
abbrev pub Through : Square → ℕ → ℕ → ℕ → ℕ → Type 0
Through s middle i w v = (w < i) × Joins s w middle × Joins s middle v

through_old : (s t : Square) (middle i : ℕ) → SetsBits s t (Through s middle i) → Joins t i middle → Joins s i middle
through_old s t middle i f j = elim (f.bits.only i middle j) [ inl old ↦ old | inr new ↦ new.1 ]

through_row : (s t : Square) (middle i v : ℕ) → SetsBits s t (Through s middle i) → Joins t middle v → Joins s middle v
through_row s t middle i v f j = elim (f.bits.only middle v j) [ inl old ↦ old | inr new ↦ new.2 ]

pub through_more : (s t u : Square) (middle i : ℕ) → SetsBits s t (Through s middle i) → Joins t i middle → SetsBits t u (λ w v. (w ≡ i) × Joins t middle v) → SetsBits s u (Through s middle (i + 1))
through_more s t u middle i f j g = record {
  count = g.count ∙ f.count;
  bits = adds_then (Joins s) (Joins t) (Joins u) (Through s middle i) (λ w v. (w ≡ i) × Joins t middle v) (Through s middle (i + 1)) f.bits g.bits
      (λ w v x. (omega arith, x.1, x.2))
      (λ w v x. (omega arith, subst (λ k. Joins s k middle) (sym x.0) (through_old s t middle i f j), through_row s t middle i v f x.1))
      (λ w v x. elim (last_or i w x.0) [ inl l ↦ inl (l, x.1, x.2) | inr e ↦ inr (e, f.bits.keeps middle v x.2) ]);
}

pub through_skip : (s t : Square) (middle i : ℕ) → SetsBits s t (Through s middle i) → ¬ Joins t i middle → SetsBits s t (Through s middle (i + 1))
through_skip s t middle i f none = record {
  count = f.count;
  bits = adds_as (Joins s) (Joins t) (Through s middle i) (Through s middle (i + 1)) f.bits
      (λ w v x. (omega arith, x.1, x.2))
      (λ w v x. elim (last_or i w x.0) [ inl l ↦ inl (l, x.1, x.2) | inr e ↦ absurd (none (f.bits.keeps i middle (subst (λ k. Joins s k middle) e x.1))) ]);
}

pub through_end : (s t : Square) (middle n : ℕ) → SetsBits s t (Through s middle n) → n ≡ s.count → SetsBits s t (λ w v. Joins s w middle × Joins s middle v)
through_end s t middle n f e = record {
  count = f.count;
  bits = adds_as (Joins s) (Joins t) (Through s middle n) (λ w v. Joins s w middle × Joins s middle v) f.bits
      (λ w v x. (x.1, x.2))
      (λ w v x. inl (subst (λ k. w < k) (sym e) x.0.0, x.0, x.1));
}

-- Warshall's invariant: the square lies between the edges and their paths, and is transitive through the numbers below k
pub record IsClosing (s t : Square) (k : ℕ) : Type 0 where
  pub count : t.count ≡ s.count
  pub keeps : (w v : ℕ) → Joins s w v → Joins t w v
  pub only : (w v : ℕ) → Joins t w v → Reaches (Joins s) w v
  pub joins : (w u v : ℕ) → u < k → Joins t w u → Joins t u v → Joins t w v

pub closing_none : (s : Square) → IsClosing s s 0
closing_none s = record { count = refl; keeps = λ w v x. x; only = λ w v x. ([], x); joins = λ w u v l p q. absurd (omega arith) }

pub closing_more : (s t u : Square) (k : ℕ) → IsClosing s t k → SetsBits t u (λ w v. Joins t w k × Joins t k v) → IsClosing s u (k + 1)
closing_more s t u k f g = record {
  count = g.count ∙ f.count;
  keeps = λ w v x. g.bits.keeps w v (f.keeps w v x);
  only = λ w v x. elim (g.bits.only w v x) [
    | inl old ↦ f.only w v old
    | inr new ↦ reaches_join (Joins s) w k v (f.only w k new.0) (f.only k v new.1)
  ];
  joins = λ w m v l p q. elim (last_or k m l) [
    | inl below ↦ under w m v below (g.bits.only w m p) (g.bits.only m v q)
    | inr e ↦ g.bits.adds w v (to_k w (subst (Joins u w) e p), from_k v (subst (λ x. Joins u x v) e q))
  ];
}
  where
    to_k : (w : ℕ) → Joins u w k → Joins t w k
    to_k w p = elim (g.bits.only w k p) [ inl old ↦ old | inr new ↦ new.0 ]

    from_k : (v : ℕ) → Joins u k v → Joins t k v
    from_k v p = elim (g.bits.only k v p) [ inl old ↦ old | inr new ↦ new.1 ]

    under : (w m v : ℕ) → m < k → Joins t w m ⊎ (Joins t w k × Joins t k m) → Joins t m v ⊎ (Joins t m k × Joins t k v) → Joins u w v
    under w m v l (inl p) (inl q) = g.bits.keeps w v (f.joins w m v l p q)
    under w m v l (inl p) (inr q) = g.bits.adds w v (f.joins w m k l p q.0, q.1)
    under w m v l (inr p) (inl q) = g.bits.adds w v (p.0, f.joins k m v l p.1 q)
    under w m v l (inr p) (inr q) = g.bits.adds w v (p.0, q.1)

pub closing_end : (s t : Square) (n : ℕ) → IsClosing s t n → n ≡ s.count → IsSquareOf s.count (Reaches (Joins s)) t
closing_end s t n f e = record {
  count = f.count;
  joins = λ w v l k. (
    f.only w v,
    reaches_within (Joins s) (Joins t) f.keeps (λ w u v p q. f.joins w u v (let size : t.count ≡ s.count = f.count in let in_t : u < t.count = p.1 in omega arith) p q) w v,
  );
}

-- loops beside a relation
pub with_loops : (s t u : Square) (E : ℕ → ℕ → Type 0) → IsSquareOf s.count E t → SetsBits t u (λ w v. (w < t.count) × (w ≡ v)) → IsSquareOf s.count (λ w v. (w ≡ v) ⊎ E w v) u
with_loops s t u E f g = record {
  count = g.count ∙ f.count;
  joins = λ w v l k. (
    (λ x. elim (g.bits.only w v x) [ inl old ↦ inr ((f.joins w v l k).0 old) | inr new ↦ inl new.1 ]),
    (λ x. elim x [
      | inl e ↦ g.bits.adds w v (let size : t.count ≡ s.count = f.count in omega arith, e)
      | inr e ↦ g.bits.keeps w v ((f.joins w v l k).1 e)
    ]),
  );
}

-- a square is a relation of its own
pub square_itself : (s : Square) → IsSquareOf s.count (Joins s) s
square_itself s = record { count = refl; joins = λ w v l k. (λ x. x, λ x. x) }
