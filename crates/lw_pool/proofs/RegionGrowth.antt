-- How a region grows, and how it is cut back.
use Rattle.std.proofs.Common.{◌≡◌, ◌<◌, inl, inr, List, [], ◌∷◌, ◌++◌, length, take, refl, sym, subst, ◌∙◌, arith, length-append}
use Rattle.std.proofs.lemmas.List.{ext_get_or, get_or-take, get_or_append_left, get_or_push, length-take-le}
use Rattle.lw_formula.specs.Formula.{Formula, falsum}
use Rattle.lw_pool.specs.declared.id.FormId.{FormId}
use Rattle.lw_pool.specs.Region.{IsAt, Grows, IsMade}

-- a region that stays has grown
pub Grows-same : (ts : List Formula) → Grows ts ts
Grows-same ts = record { longer = omega arith; same = λ a l. refl }

-- and one with a formula more
pub Grows-push : (ts : List Formula) (t : Formula) → Grows ts (ts ++ t ∷ [])
Grows-push ts t = record { longer = omega (arith, length-append ts (t ∷ [])); same = λ a l. get_or_append_left ts (t ∷ []) falsum a.0 l }

-- and one in which a formula is made
pub Grows-made : (old new : List Formula) (t : Formula) (a : FormId) → IsMade old new t a → Grows old new
Grows-made old new t a m = elim m [ inl p ↦ subst (Grows old) (sym p.1) (Grows-same old) | inr p ↦ subst (Grows old) (sym p.1) (Grows-push old t) ]

-- the formula that is made stands at its id
pub IsAt-made : (old new : List Formula) (t : Formula) (a : FormId) → IsMade old new t a → IsAt new t a
IsAt-made old new t a m =
    elim m [
      | inl p ↦ subst (λ (us : List Formula). IsAt us t a) (sym p.1) (p.0, p.2)
      | inr p ↦ subst (λ (us : List Formula). IsAt us t a) (sym p.1) (omega (arith, length-append old (t ∷ [])), get_or_push old t falsum a.0 (sym p.0))
    ]

-- growth after growth
pub Grows-trans : (a b c : List Formula) → Grows a b → Grows b c → Grows a c
Grows-trans a b c g h = record { longer = omega (arith, g.longer, h.longer); same = λ x v. h.same x (omega (arith, g.longer)) ∙ g.same x v }

-- ids keep their formulas
pub IsAt-grows : (old new : List Formula) (t : Formula) (a : FormId) → Grows old new → IsAt old t a → IsAt new t a
IsAt-grows old new t a g h = (omega (arith, h.0, g.longer), g.same a h.0 ∙ h.1)

-- cut back to its old length, the region is as before
pub Grows-cut : (old new : List Formula) → Grows old new → take (length old) new ≡ old
Grows-cut old new g =
    let long : length (take (length old) new) ≡ length old = length-take-le (length old) new g.longer in
    ext_get_or falsum (take (length old) new) old long
    (λ k l.
    let below : k < length old = omega arith in
    get_or-take (length old) new k falsum below ∙ g.same (record { 0 = k }) below)
