-- The model of an open fragment is of the logic's class, and each label holds at its world.
use Rattle.std.proofs.Common.{◌≡◌, ◌≢◌, ℕ, ◌<◌, zero, suc, true, ◌&&◌, Option, Some, None, [], length, ◌⊎◌, inl, inr, refl, sym, ap, subst, arith}
use Rattle.std.specs.Bool.{IsTrue}
use Rattle.std.proofs.lemmas.Bool.{false≢true, or_left, or_right, and_from, cases_eq}
use Rattle.lw_formula.specs.declared.logic.Logic.{Logic}
use Rattle.lw_formula.specs.declared.logic.Logic.TheVariants.{K, KT, S4, S5, GL, Grz, K4, KD}
use Rattle.lw_formula.specs.declared.parts.Parts.TheVariants.{Pi}
use Rattle.lw_formula.specs.declared.sign.Sign.{Sign}
use Rattle.lw_formula.specs.declared.sign.Sign.TheVariants.{T, F}
use Rattle.lw_formula.specs.Formula.{Formula, letter, falsum, verum, neg, conj, disj, impl, equi, nec, poss}
use Rattle.lw_formula.specs.FiniteModel.{FiniteModel}
use Rattle.lw_formula.specs.Class.{HasFrame, IsReflexive, IsTransitive}
use Rattle.lw_formula.specs.Signed.{Signed, SignedSet, flip, HoldsSigned}
use Rattle.lw_formula.specs.Components.{parts_of}
use Rattle.lw_proof.specs.System.{trees, nu_of}
use Rattle.lw_proof.specs.Derivation.{has_cut, has_refl, is_nu, is_pi, is_modal_part}
use Rattle.lw_proof.proofs.SignedMeaning.{means_back}
use Rattle.lw_counter.specs.Fragment.{Fragment, world_at}
use Rattle.lw_counter.specs.FragmentPaths.{has_links, IsEdge, Reaches, IsRelated}
use Rattle.lw_counter.specs.Open.{IsOpen}
use Rattle.lw_counter.specs.Countermodel.{IsModelOf}
use Rattle.lw_counter.specs.Laws.{OpenFragmentsAreModels}
use Rattle.lw_counter.proofs.EdgePaths.{reaches_join, reaches_within, edge_within}

-- without links an edge leads from a parent
parent_edge : (L : Logic) (f : Fragment) → has_links L ≢ true → (w v : ℕ) → IsEdge L f w v → (world_at f v).parent ≡ Some w
parent_edge L f none w v (inl e) = e
parent_edge L f none w v (inr link) = absurd (none link.0)

-- the ν with a component is a ν
is_nu-nu_of : (c : Signed) → is_nu (parts_of (nu_of c)) ≡ true
is_nu-nu_of (T, a) = refl
is_nu-nu_of (F, a) = refl

-- a modal formula stays one under the other sign
is_modal-flip : (s : Signed) → is_modal_part (parts_of s) ≡ true → is_modal_part (parts_of (flip s)) ≡ true
is_modal-flip (T, nec a) e = refl
is_modal-flip (F, nec a) e = refl
is_modal-flip (T, poss a) e = refl
is_modal-flip (F, poss a) e = refl
is_modal-flip _ e = absurd (false≢true e)

flip-flip : (s : Signed) → flip (flip s) ≡ s
flip-flip (T, a) = refl
flip-flip (F, a) = refl

module _ (L : Logic) (f : Fragment) (label : ℕ → SignedSet) (o : IsOpen trees L f label) where
  abbrev n : ℕ
  n = length f.worlds

  -- a path leads to a later world where edges are those from parents alone
  climbs : ((w v : ℕ) → IsEdge L f w v → (world_at f v).parent ≡ Some w) → (w v : ℕ) → Reaches (IsEdge L f) w v → w < v
  climbs up =
      reaches_within (IsEdge L f) (λ w v. w < v)
      (λ w v e. o.formed.ordered v w (up w v e))
      (λ w u v p q. omega arith)

  reaches_ends : (w v : ℕ) → Reaches (IsEdge L f) w v → (w < n) × (v < n)
  reaches_ends =
      reaches_within (IsEdge L f) (λ w v. (w < n) × (v < n))
      (edge_within L f o.formed)
      (λ w u v p q. (p.0, q.1))

  -- where worlds see themselves, the component of a ν stands beside it
  beside : IsTrue (has_refl L) → (w : ℕ) → w < n → (c : Signed) → label w (nu_of c) ≡ true → label w c ≡ true
  beside r w l (T, a) e = (o.unclosed w l).served (T, nec a) e r
  beside r w l (F, a) e = (o.unclosed w l).served (F, poss a) e r

  -- where a step keeps the ν themselves, a ν goes along each path
  on_path : ((w v : ℕ) → IsEdge L f w v → (s : Signed) → (is_nu (parts_of s) && label w s) ≡ true → label v s ≡ true) →
      (w v : ℕ) → (w ≡ v) ⊎ Reaches (IsEdge L f) w v → (c : Signed) → label w (nu_of c) ≡ true → label v (nu_of c) ≡ true
  on_path stays w v (inl same) c e = subst (λ u. label u (nu_of c) ≡ true) same e
  on_path stays w v (inr path) c e =
      reaches_within (IsEdge L f) (λ w v. label w (nu_of c) ≡ true → label v (nu_of c) ≡ true)
      (λ w v edge h. stays w v edge (nu_of c) (and_from (is_nu (parts_of (nu_of c))) (label w (nu_of c)) (is_nu-nu_of c) h))
      (λ w u v p q h. q (p h))
      w v path e

-- what a ν says reaches each world that is seen
carried : (L : Logic) (f : Fragment) (label : ℕ → SignedSet) → IsOpen trees L f label → (w v : ℕ) → w < length f.worlds → v < length f.worlds → IsRelated L f w v →
    (c : Signed) → label w (nu_of c) ≡ true → label v c ≡ true
carried K f label o w v l k r c e = o.flows w v r c e
carried KT f label o w v l k r c e = elim r [
  | inl same ↦ subst (λ u. label u c ≡ true) same (beside KT f label o refl w l c e)
  | inr edge ↦ o.flows w v edge c e
]
carried S4 f label o w v l k r c e = beside S4 f label o refl v k c (on_path S4 f label o o.flows w v r c e)
carried Grz f label o w v l k r c e = beside Grz f label o refl v k c (on_path Grz f label o o.flows w v r c e)
carried GL f label o w v l k r c e =
    (reaches_within (IsEdge GL f) (λ w v. label w (nu_of c) ≡ true → (label v (nu_of c) ≡ true) × (label v c ≡ true))
    (λ w v edge h. (
      o.flows w v edge (nu_of c) (or_left (is_nu (parts_of (nu_of c)) && label w (nu_of c)) (label w (nu_of (nu_of c))) (and_from (is_nu (parts_of (nu_of c))) (label w (nu_of c)) (is_nu-nu_of c) h)),
      o.flows w v edge c (or_right (is_nu (parts_of c) && label w c) (label w (nu_of c)) h),
    ))
    (λ w u v p q h. q (p h).0)
    w v r e).1
carried K4 f label o w v l k r c e =
    (reaches_within (IsEdge K4 f) (λ w v. label w (nu_of c) ≡ true → (label v (nu_of c) ≡ true) × (label v c ≡ true))
    (λ w v edge h. (
      o.flows w v edge (nu_of c) (or_left (is_nu (parts_of (nu_of c)) && label w (nu_of c)) (label w (nu_of (nu_of c))) (and_from (is_nu (parts_of (nu_of c))) (label w (nu_of c)) (is_nu-nu_of c) h)),
      o.flows w v edge c (or_right (is_nu (parts_of c) && label w c) (label w (nu_of c)) h),
    ))
    (λ w u v p q h. q (p h).0)
    w v r e).1
carried KD f label o w v l k r c e = elim r [
  | inl edge ↦ o.flows w v edge c e
  | inr end ↦ (let next = o.serial refl w l (nu_of c) (is_nu-nu_of c) e in absurd (end.1 next.0 next.1))
]
carried S5 f label o w v l k r c e = beside S5 f label o refl v k c (from_root v k (nu_of c) modal (at_root w l (nu_of c) modal e))
  where
    modal : is_modal_part (parts_of (nu_of c)) ≡ true
    modal = or_left (is_nu (parts_of (nu_of c))) (is_pi (parts_of (nu_of c))) (is_nu-nu_of c)

    -- a modal formula of the root stands in each label
    from_root : (v : ℕ) → v < length f.worlds → (s : Signed) → is_modal_part (parts_of s) ≡ true → label 0 s ≡ true → label v s ≡ true
    from_root v k s m h = elim (cases_eq v 0) [
      | inl root ↦ subst (λ u. label u s ≡ true) (sym root) h
      | inr other ↦ o.flows 0 v (inl ((o.round refl).near v k other)) s (and_from (is_modal_part (parts_of s)) (label 0 s) m h)
    ]

    -- and one of a label stands in the root's
    at_root : (w : ℕ) → w < length f.worlds → (s : Signed) → is_modal_part (parts_of s) ≡ true → label w s ≡ true → label 0 s ≡ true
    at_root w l s m h = elim ((o.round refl).decided w l s m h) [
      | inl there ↦ there
      | inr other ↦ absurd ((o.unclosed w l).consistent s h (from_root w l (flip s) (is_modal-flip s m) other))
    ]

-- each π has its component at a world that is seen
witnessed : (L : Logic) (f : Fragment) (label : ℕ → SignedSet) → IsOpen trees L f label → (w : ℕ) → w < length f.worlds → (s c : Signed) → label w s ≡ true → parts_of s ≡ Pi c →
    (v : ℕ) × (v < length f.worlds) × IsRelated L f w v × (label v c ≡ true)
witnessed L f label o w l s c h e = elim (o.served w l s c h e) [
  | inl here ↦ (w, l, itself L here.0, here.1)
  | inr there ↦ elim there.1 [
    | inl edge ↦ (there.0, (edge_within L f o.formed w there.0 edge).1, along L there.0 edge, there.2)
    | inr any ↦ (there.0, any.1, all L there.0 any.0, there.2)
  ]
]
  where
    itself : (L : Logic) → has_refl L ≡ true → IsRelated L f w w
    itself K r = absurd (false≢true r)
    itself KT r = inl refl
    itself S4 r = inl refl
    itself S5 r = tt
    itself GL r = absurd (false≢true r)
    itself Grz r = inl refl
    itself K4 r = absurd (false≢true r)
    itself KD r = absurd (false≢true r)

    all : (L : Logic) (v : ℕ) → has_cut L ≡ true → IsRelated L f w v
    all S5 v r = tt
    all K v r = absurd (false≢true r)
    all KT v r = absurd (false≢true r)
    all S4 v r = absurd (false≢true r)
    all GL v r = absurd (false≢true r)
    all Grz v r = absurd (false≢true r)
    all K4 v r = absurd (false≢true r)
    all KD v r = absurd (false≢true r)

    along : (L : Logic) (v : ℕ) → IsEdge L f w v → IsRelated L f w v
    along K v e = e
    along KT v e = inr e
    along S4 v e = inr ([], e)
    along S5 v e = tt
    along GL v e = ([], e)
    along Grz v e = inr ([], e)
    along K4 v e = ([], e)
    along KD v e = inl e

-- reflexive closures of transitive relations are transitive
join_or : (E : ℕ → ℕ → Type 0) (u v w : ℕ) → (u ≡ v) ⊎ Reaches E u v → (v ≡ w) ⊎ Reaches E v w → (u ≡ w) ⊎ Reaches E u w
join_or E u v w (inl e) q = subst (λ x. (x ≡ w) ⊎ Reaches E x w) (sym e) q
join_or E u v w (inr p) (inl e) = inr (subst (Reaches E u) e p)
join_or E u v w (inr p) (inr q) = inr (reaches_join E u v w p q)

module _ (L : Logic) (f : Fragment) (label : ℕ → SignedSet) (m : FiniteModel) (k : IsModelOf L f label m) where
  reflexive : ((w : ℕ) → IsRelated L f w w) → IsReflexive m
  reflexive each w l =
      let size : m.worlds ≡ length f.worlds = k.worlds in
      (k.sees w w).1 (omega arith, omega arith, each w)

  transitive : ((u v w : ℕ) → IsRelated L f u v → IsRelated L f v w → IsRelated L f u w) → IsTransitive m
  transitive joins u v w s t =
      let p = (k.sees u v).0 s in
      let q = (k.sees v w).0 t in
      (k.sees u w).1 (p.0, q.1, joins u v w p.2 q.2)

-- a number below n has the property, or none has it
some_below : (P : ℕ → Type 0) → ((v : ℕ) → P v ⊎ (¬ P v)) → (n : ℕ) → ((v : ℕ) × (v < n) × P v) ⊎ ((v : ℕ) → v < n → ¬ P v)
some_below P either zero = inr (λ v l. absurd (omega arith))
some_below P either (suc n) = elim (either n) [
  | inl p ↦ inl (n, omega arith, p)
  | inr q ↦ elim (some_below P either n) [
    | inl r ↦ (let l : r.0 < n = r.1 in inl (r.0, omega arith, r.2))
    | inr others ↦ inr (λ v l. elim (cases_eq v n) [ inl e ↦ subst (λ u. ¬ P u) (sym e) q | inr apart ↦ others v (omega arith) ])
  ]
]

-- the number is w or it isn't
is_own : (o : Option ℕ) (w : ℕ) → (o ≡ Some w) ⊎ (¬ (o ≡ Some w))
is_own None w = inr (λ e. cc)
is_own (Some p) w = elim (cases_eq p w) [ inl e ↦ inl (ap Some e) | inr n ↦ inr (λ e. n cc) ]

-- in KD each world has an edge that leads on, or sees itself
leads_on : (f : Fragment) (label : ℕ → SignedSet) → IsOpen trees KD f label → (w : ℕ) → w < length f.worlds → (v : ℕ) × (v < length f.worlds) × IsRelated KD f w v
leads_on f label o w l = elim (some_below (λ v. (world_at f v).parent ≡ Some w) (λ v. is_own (world_at f v).parent w) (length f.worlds)) [
  | inl child ↦ (child.0, child.1, inl (inl child.2))
  | inr none ↦ (w, l, inr (refl, λ u edge. none u (edge_within KD f o.formed w u edge).1 (parent_edge KD f false≢true w u edge)))
]

-- the relation is one of the logic's frames
framed : (L : Logic) (f : Fragment) (label : ℕ → SignedSet) (m : FiniteModel) → IsOpen trees L f label → IsModelOf L f label m → HasFrame L m
framed K f label m o k = tt
framed KT f label m o k = reflexive KT f label m k (λ w. inl refl)
framed S4 f label m o k = (reflexive S4 f label m k (λ w. inl refl), transitive S4 f label m k (join_or (IsEdge S4 f)))
framed S5 f label m o k = (
  reflexive S5 f label m k (λ w. tt),
  λ v w s. (let p = (k.sees v w).0 s in (k.sees w v).1 (p.1, p.0, tt)),
  transitive S5 f label m k (λ u v w p q. tt),
)
framed GL f label m o k = (
  transitive GL f label m k (reaches_join (IsEdge GL f)),
  λ w s. (let l : w < w = climbs GL f label o (parent_edge GL f false≢true) w w ((k.sees w w).0 s).2 in omega arith),
)
framed K4 f label m o k = transitive K4 f label m k (reaches_join (IsEdge K4 f))
framed KD f label m o k = λ w l.
    let size : m.worlds ≡ length f.worlds = k.worlds in
    let next = leads_on f label o w (omega arith) in
    (next.0, (k.sees w next.0).1 (omega arith, next.1, next.2))
framed Grz f label m o k = (
  reflexive Grz f label m k (λ w. inl refl),
  transitive Grz f label m k (join_or (IsEdge Grz f)),
  λ v w s t. meet v w ((k.sees v w).0 s).2 ((k.sees w v).0 t).2,
)
  where
    up : (v w : ℕ) → Reaches (IsEdge Grz f) v w → v < w
    up = climbs Grz f label o (parent_edge Grz f false≢true)

    meet : (v w : ℕ) → IsRelated Grz f v w → IsRelated Grz f w v → v ≡ w
    meet v w (inl e) q = e
    meet v w (inr p) (inl e) = sym e
    meet v w (inr p) (inr q) =
        let over : v < w = up v w p in
        let under : w < v = up w v q in
        absurd (omega arith)

module _ (L : Logic) (f : Fragment) (label : ℕ → SignedSet) (m : FiniteModel) (o : IsOpen trees L f label) (k : IsModelOf L f label m) where
  -- what is in a label holds at its world, by the formula
  holds : (a : Formula) (x : Sign) (w : ℕ) → w < length f.worlds → label w (x, a) ≡ true → HoldsSigned m w (x, a)
  holds (letter p) T w l e = (k.facts w p).1 (l, e)
  holds (letter p) F w l e = λ h. (o.unclosed w l).consistent (F, letter p) e ((k.facts w p).0 h).1
  holds falsum T w l e = absurd ((o.unclosed w l).possible (T, falsum) e refl)
  holds falsum F w l e = λ h. h
  holds verum T w l e = tt
  holds verum F w l e = absurd ((o.unclosed w l).possible (F, verum) e refl)
  holds (neg a) T w l e = means_back m w (T, neg a) tt (holds a F w l ((o.unclosed w l).served (T, neg a) e), tt)
  holds (neg a) F w l e = means_back m w (F, neg a) tt (holds a T w l ((o.unclosed w l).served (F, neg a) e), tt)
  holds (conj a b) T w l e =
      let h = (o.unclosed w l).served (T, conj a b) e in
      means_back m w (T, conj a b) tt (holds a T w l h.0, (holds b T w l h.1, tt))
  holds (conj a b) F w l e =
      means_back m w (F, conj a b) tt (elim ((o.unclosed w l).served (F, conj a b) e) [ inl h ↦ inl (holds a F w l h, tt) | inr h ↦ inr (holds b F w l h, tt) ])
  holds (disj a b) T w l e =
      means_back m w (T, disj a b) tt (elim ((o.unclosed w l).served (T, disj a b) e) [ inl h ↦ inl (holds a T w l h, tt) | inr h ↦ inr (holds b T w l h, tt) ])
  holds (disj a b) F w l e =
      let h = (o.unclosed w l).served (F, disj a b) e in
      means_back m w (F, disj a b) tt (holds a F w l h.0, (holds b F w l h.1, tt))
  holds (impl a b) T w l e =
      means_back m w (T, impl a b) tt (elim ((o.unclosed w l).served (T, impl a b) e) [ inl h ↦ inl (holds a F w l h, tt) | inr h ↦ inr (holds b T w l h, tt) ])
  holds (impl a b) F w l e =
      let h = (o.unclosed w l).served (F, impl a b) e in
      means_back m w (F, impl a b) tt (holds a T w l h.0, (holds b F w l h.1, tt))
  holds (equi a b) T w l e =
      means_back m w (T, equi a b) tt (elim ((o.unclosed w l).served (T, equi a b) e) [
        | inl h ↦ inl (holds a T w l h.0, (holds b T w l h.1, tt))
        | inr h ↦ inr (holds a F w l h.0, (holds b F w l h.1, tt))
      ])
  holds (equi a b) F w l e =
      means_back m w (F, equi a b) tt (elim ((o.unclosed w l).served (F, equi a b) e) [
        | inl h ↦ inl (holds a T w l h.0, (holds b F w l h.1, tt))
        | inr h ↦ inr (holds a F w l h.0, (holds b T w l h.1, tt))
      ])
  holds (nec a) T w l e = λ v s. let r = (k.sees w v).0 s in holds a T v r.1 (carried L f label o w v r.0 r.1 r.2 (T, a) e)
  holds (nec a) F w l e =
      let x = witnessed L f label o w l (F, nec a) (F, a) e refl in
      means_back m w (F, nec a) tt (x.0, (k.sees w x.0).1 (l, x.1, x.2), holds a F x.0 x.1 x.3)
  holds (poss a) T w l e =
      let x = witnessed L f label o w l (T, poss a) (T, a) e refl in
      means_back m w (T, poss a) tt (x.0, (k.sees w x.0).1 (l, x.1, x.2), holds a T x.0 x.1 x.3)
  holds (poss a) F w l e = means_back m w (F, poss a) tt (λ v s. let r = (k.sees w v).0 s in holds a F v r.1 (carried L f label o w v r.0 r.1 r.2 (F, a) e))

pub open_models : OpenFragmentsAreModels
open_models L f label m o k = (
  record { well_formed = k.well_formed; frame = framed L f label m o k },
  λ w l s e. holds L f label m o k s.1 s.0 w l e,
)
