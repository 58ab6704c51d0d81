-- Levels that wait one on the other, with one more or less at their end.
use Rattle.std.proofs.Common.{◌≡◌, ℕ, ◌+◌, ◌-◌, List, [], ◌∷◌, ◌++◌, length, refl, sym, ap, subst, arith}
use Rattle.lw_closure.specs.Table.{Table}
use Rattle.lw_search.specs.declared.level.Level.{Level}
use Rattle.lw_search.specs.Private.SearchLevels.{Aim, Place, Nested, Waits, held_room, waiting_room}

module _ (t : Table) (aim : Aim) where
  pub nested_on : (ls : List Level) (l : Level) (a b c : Place) → Nested t aim a ls b → Waits t aim b l c → Nested t aim a (ls ++ l ∷ []) c
  nested_on [] l a b c h w = (c, subst (λ (x : Place). Waits t aim x l c) (sym h) w, refl)
  nested_on (k ∷ ls) l a b c h w = (h.0, h.1, nested_on ls l h.0 b c h.2 w)

  pub nested_off : (ls : List Level) (l : Level) (a c : Place) → Nested t aim a (ls ++ l ∷ []) c → (b : Place) × Nested t aim a ls b × Waits t aim b l c
  nested_off [] l a c h = (a, refl, subst (λ (x : Place). Waits t aim a l x) h.2 h.1)
  nested_off (k ∷ ls) l a c h = let r = nested_off ls l h.0 c h.2 in (r.0, (h.0, h.1, r.1), r.2)

  pub nested_left : (ls : List Level) (a c : Place) → Nested t aim a ls c → c.left ≡ a.left - length ls
  nested_left [] a c h = (let same = ap (λ (x : Place). x.left) h in omega arith)
  nested_left (l ∷ ls) a c h =
      let next = ap (λ (x : Place). x.left) h.1.next in
      let rest = nested_left ls h.0 c h.2 in
      omega (arith, next, rest)

pub held_on : (n k : ℕ) (ls : List Level) (l : Level) → held_room n k (ls ++ l ∷ []) ≡ held_room n k ls + waiting_room n (k - length ls) l
held_on n k [] l = (let same : waiting_room n (k - 0) l ≡ waiting_room n k l = ap (λ j. waiting_room n j l) (none k) in rest (waiting_room n k l) (waiting_room n (k - 0) l) same) where
  none : (j : ℕ) → j - 0 ≡ j
  none j = omega arith

  rest : (w v : ℕ) → v ≡ w → w + 0 ≡ 0 + v
  rest w v e = omega arith
held_on n k (m ∷ ls) l =
    let rest = held_on n (k - 1) ls l in
    let same : (k - 1) - length ls ≡ k - length (m ∷ ls) = omega arith in
    let moved : waiting_room n ((k - 1) - length ls) l ≡ waiting_room n (k - length (m ∷ ls)) l = ap (λ j. waiting_room n j l) same in
    join (waiting_room n k m) (held_room n (k - 1) (ls ++ l ∷ [])) (held_room n (k - 1) ls) (waiting_room n ((k - 1) - length ls) l) (waiting_room n (k - length (m ∷ ls)) l) rest moved
  where
    join : (a b c d e : ℕ) → b ≡ c + d → d ≡ e → a + b ≡ (a + c) + e
    join a b c d e f g = omega arith
