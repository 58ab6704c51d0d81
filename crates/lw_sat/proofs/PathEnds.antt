-- Paths with one frame more or less at their end.
use Rattle.std.proofs.Common.{◌≡◌, ℕ, max, Bool, true, List, [], ◌∷◌, ◌++◌, refl, sym, ap, subst, inl, inr, arith}
use Rattle.std.proofs.lemmas.Bool.{or_cases}
use Rattle.lw_proof.specs.System.{Set, IsWithin}
use Rattle.lw_closure.specs.Table.{Table, item_count}
use Rattle.lw_sat.specs.declared.frame.Frame.{Frame}
use Rattle.lw_sat.specs.declared.frame.Frame.TheVariants.{Alone, First, Second}
use Rattle.lw_sat.specs.Sets.{among, adding, AreBelow, IsOfItems}
use Rattle.lw_sat.specs.Moves.{listed}
use Rattle.lw_sat.specs.SeedPath.{Spot, Link, Chain, held_steps, most_steps}
use Rattle.lw_sat.proofs.UsedItems.{adding_old, below_each}

module _ (t : Table) (test : Set ℕ → Bool) where
  pub chain_on : (fs : List Frame) (f : Frame) (a b c : Spot) → Chain t test a fs b → Link t test b f c → Chain t test a (fs ++ f ∷ []) c
  chain_on [] f a b c h l = (c, subst (λ x. Link t test x f c) (sym h) l, refl)
  chain_on (g ∷ fs) f a b c h l = (h.0, h.1, chain_on fs f h.0 b c h.2 l)

  pub chain_off : (fs : List Frame) (f : Frame) (a c : Spot) → Chain t test a (fs ++ f ∷ []) c → (b : Spot) × Chain t test a fs b × Link t test b f c
  chain_off [] f a c h = (a, refl, subst (λ x. Link t test a f x) h.2 h.1)
  chain_off (g ∷ fs) f a c h = let r = chain_off fs f h.0 c h.2 in (r.0, (h.0, h.1, r.1), r.2)

  -- no member is lost on the way
  link_within : (f : Frame) (a b : Spot) → Link t test a f b → IsWithin a.set b.set
  link_within (Alone rule item s) a b l = subst (λ x. IsWithin a.set x) (sym (ap (λ c. c.set) l.1)) (adding_old (listed s) a.set)
  link_within (First rule item p q) a b l = subst (λ x. IsWithin a.set x) (sym (ap (λ c. c.set) l.2)) (adding_old (listed p) a.set)
  link_within (Second rule item p q proof) a b l = subst (λ x. IsWithin a.set x) (sym (ap (λ c. c.set) l.1.2)) (adding_old (listed q) a.set)

  pub chain_within : (fs : List Frame) (a b : Spot) → Chain t test a fs b → IsWithin a.set b.set
  chain_within [] a b h i e = subst (λ x. x.set i ≡ true) h e
  chain_within (f ∷ fs) a b h i e = chain_within fs h.0 b h.2 i (link_within f a h.0 h.1 i e)

  -- items stay items
  items_on : (cs : List ℕ) (X : Set ℕ) → AreBelow (item_count t) cs → IsOfItems t X → IsOfItems t (adding cs X)
  items_on cs X h own i e = elim (or_cases (among cs i) (X i) e) [ inl a ↦ below_each (item_count t) cs h i a | inr b ↦ own i b ]

  link_items : (f : Frame) (a b : Spot) → Link t test a f b → IsOfItems t a.set → IsOfItems t b.set
  link_items (Alone rule item s) a b l own = subst (λ x. IsOfItems t x) (sym (ap (λ c. c.set) l.1)) (items_on (listed s) a.set l.0.sides.0 own)
  link_items (First rule item p q) a b l own = subst (λ x. IsOfItems t x) (sym (ap (λ c. c.set) l.2)) (items_on (listed p) a.set l.0.sides.0 own)
  link_items (Second rule item p q proof) a b l own = subst (λ x. IsOfItems t x) (sym (ap (λ c. c.set) l.1.2)) (items_on (listed q) a.set l.0.sides.1.0 own)

  pub chain_items : (fs : List Frame) (a b : Spot) → Chain t test a fs b → IsOfItems t a.set → IsOfItems t b.set
  chain_items [] a b h own = subst (λ x. IsOfItems t x.set) h own
  chain_items (f ∷ fs) a b h own = chain_items fs h.0 b h.2 (link_items f a h.0 h.1 own)

pub most_steps-on : (fs : List Frame) (f : Frame) → most_steps (fs ++ f ∷ []) ≡ max (most_steps fs) (held_steps f)
most_steps-on [] f = omega arith
most_steps-on (g ∷ fs) f = omega (arith, most_steps-on fs f)
