-- How a fragment that is open but for what waits on the path grows.
use Rattle.std.proofs.Common.{◌≡◌, ℕ, ◌+◌, ◌<◌, ◌≤◌, true, ◌&&◌, ◌||◌, cond, eqb, nat_lt, Some, None, List, [], ◌∷◌, length, zero, suc, ◌⊎◌, inl, inr, refl, sym, ap, subst, ◌∙◌, arith}
use Rattle.std.specs.List.{All, Contains}
use Rattle.std.proofs.lemmas.Bool.{and_parts, cases_lt, cond-true, cond-false, eq-eqb, eqb-true, false≢true, ltb-true, ne_eqb, or_cases}
use Rattle.std.proofs.lemmas.List.Elements.{All-nil, All-push, All-weaker, Contains-append_left, Contains-push, Contains-push_cases, All-contains}
use Rattle.lw_formula.specs.declared.logic.Logic.{Logic}
use Rattle.lw_formula.specs.declared.parts.Parts.TheVariants.{Pi}
use Rattle.lw_proof.specs.System.{Set, IsWithin}
use Rattle.lw_proof.specs.Derivation.{has_cut, has_refl, has_serial, is_nu, is_pi, kept}
use Rattle.lw_closure.specs.Table.{Table, entry_at, item_count}
use Rattle.lw_closure.specs.Items.{items}
use Rattle.lw_closure.specs.Unclosed.{IsUnclosedLabel}
use Rattle.lw_closure.proofs.ItemNumbers.{any_below_cases}
use Rattle.lw_closure.proofs.OwnPis.{nu_no_pi}
use Rattle.lw_counter.specs.Fragment.{Fragment, world_at, items_of, with_world, with_link}
use Rattle.lw_counter.specs.Open.{HasWitness, IsOffered}
use Rattle.lw_counter.specs.FragmentPaths.{IsEdge}
use Rattle.lw_counter.proofs.WellFormedFragments.{items_more}
use Rattle.lw_counter.proofs.EdgePaths.{child_within}
use Rattle.lw_counter.proofs.FragmentChanges.{length_with, new_items, new_parent, old_items, old_parent, world_cases}
use Rattle.lw_sat.specs.Sets.{among}
use Rattle.lw_sat.proofs.SaturationCourse.{among_all}
use Rattle.lw_search.specs.Ranked.{Past, IsServedBy}
use Rattle.lw_search.specs.Private.SearchWorlds.{last_world, IsOnWay, IsSound, IsWaiting, LeadsOn, NuWaits}
use Rattle.lw_search.specs.Private.StepAskers.{goes_before, others_ask}
use Rattle.lw_search.proofs.FewAskers.{pi_with, serial_alone}

-- nothing has been found yet
pub sound_start : (t : Table) (n : ℕ) (X : Set ℕ) → IsSound t n X [] (record { worlds = []; links = [] })
sound_start t n X = record {
  formed = record { ordered = λ w u e. absurd (none u e); linked = All-nil (λ l. (l.0 < 0) × (l.1 < 0)) };
  inside = λ w. All-nil (λ i. i < item_count t);
  unclosed = λ w l. absurd (omega arith);
  flows = λ w v e. elim e [ inl p ↦ absurd (none w p) | inr q ↦ absurd (omega (arith, q.1.1)) ];
  served = λ w s c l. absurd (omega arith);
  serial = λ serial w s l. absurd (omega arith);
  root = λ l. absurd (omega arith);
  heights = record { height = λ w. 0; low = λ w l. absurd (omega arith); falls = λ w v l. absurd (omega arith) };
  way = tt;
} where
  none : (w : ℕ) → None ≡ Some w → ⊥
  none w e = cc

-- a world of the path is there, with its label
pub on_way : (n : ℕ) (height : ℕ → ℕ) (f : Fragment) (path : List Past) → IsOnWay n height f path → (p : Past) → Contains path p → (p.world < length f.worlds) × (items_of f p.world ≡ p.label)
on_way n height f [] h p (k, l, e) = absurd (omega arith)
on_way n height f (q ∷ path) h p (zero, l, e) = subst (λ (r : Past). (r.world < length f.worlds) × (items_of f r.world ≡ r.label)) e (h.0, h.1)
on_way n height f (q ∷ path) h p (suc k, l, e) = on_way n height f path h.4 p (k, omega arith, e)

-- in the serial logic a witness stands where an edge leads
pub witness_leads : (L : Logic) (f : Fragment) (label : ℕ → Set ℕ) (w c : ℕ) → has_serial L ≡ true → HasWitness L f label w c → LeadsOn L f w
witness_leads L f label w c serial (inl own) = absurd (false≢true (sym (serial_alone L serial).0 ∙ own.0))
witness_leads L f label w c serial (inr (v, inl edge, there)) = (v, edge)
witness_leads L f label w c serial (inr (v, inr cut, there)) = absurd (false≢true (sym (serial_alone L serial).1 ∙ cut.0))

-- an item waits where one before it does
waiting_more : (path : List Past) (w i j : ℕ) → i ≤ j → IsWaiting path w i → IsWaiting path w j
waiting_more [] w i j l q = absurd q
waiting_more (p ∷ path) w i j l (inl q) = inl (q.0, omega (arith, q.1))
waiting_more (p ∷ path) w i j l (inr q) = inr (waiting_more path w i j l q)

-- one world more, behind the others, on the path
module _ (t : Table) (n : ℕ) (X : Set ℕ) (path : List Past) (f : Fragment) (ls : List ℕ) (h : IsSound t n X path f) where
  abbrev g : Fragment
  g = with_world f (last_world path) ls

  witness_on : (w c : ℕ) → HasWitness t.logic f (items_of f) w c → w < length f.worlds → HasWitness t.logic g (items_of g) w c
  witness_on w c (inl own) l = inl (own.0, subst (λ Y. Y c ≡ true) (sym (old_items f (last_world path) ls w l)) own.1)
  witness_on w c (inr (v, offered, there)) l =
      let below : v < length f.worlds = offered_there v offered in
      inr (v, offered_on v offered below, subst (λ Y. Y c ≡ true) (sym (old_items f (last_world path) ls v below)) there)
    where
      offered_there : (v : ℕ) → IsOffered t.logic f w v → v < length f.worlds
      offered_there v (inl (inl e)) = child_within f v w e
      offered_there v (inl (inr e)) = (All-contains (λ l. (l.0 < length f.worlds) × (l.1 < length f.worlds)) f.links (w, v) h.formed.linked e.1).1
      offered_there v (inr e) = e.1

      offered_on : (v : ℕ) → IsOffered t.logic f w v → v < length f.worlds → IsOffered t.logic g w v
      offered_on v (inl (inl e)) below = inl (inl (old_parent f (last_world path) ls v below ∙ e))
      offered_on v (inl (inr e)) below = inl (inr e)
      offered_on v (inr e) below = inr (e.0, omega (arith, length_with f (last_world path) ls))

  module _ (left : ℕ) (own : All (λ i. i < item_count t) ls) (unclosed : IsUnclosedLabel t (among ls)) (begins : length f.worlds ≡ 0 → IsWithin X (among ls)) (high : left + length path ≡ n)
      (flows : (p : Past) (ps : List Past) → path ≡ p ∷ ps → IsWithin (kept (items t) t.logic p.label) (among ls)) where
    ordered_on : (w u : ℕ) → (world_at g w).parent ≡ Some u → u < w
    ordered_on w u e =
        elim (world_cases f (last_world path) ls w (child_within g w u e)) [
          | inl old ↦ h.formed.ordered w u (sym (old_parent f (last_world path) ls w old) ∙ e)
          | inr new ↦ subst (λ k. u < k) (sym new) (parent_there path h.way (sym (new_parent f (last_world path) ls) ∙ ap (λ k. (world_at g k).parent) (sym new) ∙ e))
        ] where
          parent_there : (ps : List Past) → IsOnWay n h.heights.height f ps → last_world ps ≡ Some u → u < length f.worlds
          parent_there [] way q = absurd (let bad : ⊥ = cc in bad)
          parent_there (p ∷ ps) way q = (let same : p.world ≡ u = cc in omega (arith, way.0))

    height_on : ℕ → ℕ
    height_on w = cond (eqb w (length f.worlds)) left (h.heights.height w)

    height_old : (w : ℕ) → w < length f.worlds → height_on w ≡ h.heights.height w
    unfolding height_on
    height_old w l = cond-false (eqb w (length f.worlds)) left (h.heights.height w) (ne_eqb w (length f.worlds) (λ e. omega arith))

    height_new : (w : ℕ) → w ≡ length f.worlds → height_on w ≡ left
    unfolding height_on
    height_new w e = cond-true (eqb w (length f.worlds)) left (h.heights.height w) (eq-eqb w (length f.worlds) e)

    carries_old : (w v : ℕ) → w < length f.worlds → v < length f.worlds → IsWithin (kept (items t) t.logic (items_of f w)) (items_of f v) → IsWithin (kept (items t) t.logic (items_of g w)) (items_of g v)
    carries_old w v l m k s e =
        subst (λ (Y : Set ℕ). Y s ≡ true) (sym (old_items f (last_world path) ls v m))
        (k s (subst (λ (Y : Set ℕ). kept (items t) t.logic Y s ≡ true) (old_items f (last_world path) ls w l) e))

    -- what is so of the world from which the step leads to the new one
    parent_cases : (P : ℕ → Type 0) → ((p : Past) (ps : List Past) → path ≡ p ∷ ps → IsOnWay n h.heights.height f (p ∷ ps) → P p.world) → (ps : List Past) → path ≡ ps → IsOnWay n h.heights.height f ps → (w : ℕ) → last_world ps ≡ Some w → P w
    parent_cases P each [] q way w e = absurd (let bad : ⊥ = cc in bad)
    parent_cases P each (p ∷ ps) q way w e = (let same : p.world ≡ w = cc in subst P same (each p ps q way))

    new_child : (v w : ℕ) → v ≡ length f.worlds → (world_at g v).parent ≡ Some w → last_world path ≡ Some w
    new_child v w new e = sym (new_parent f (last_world path) ls) ∙ ap (λ k. (world_at g k).parent) (sym new) ∙ e

    flows_new : (p : Past) (ps : List Past) → path ≡ p ∷ ps → IsOnWay n h.heights.height f (p ∷ ps) → IsWithin (kept (items t) t.logic (items_of g p.world)) (among ls)
    flows_new p ps q way s e =
        flows p ps q s (subst (λ (Y : Set ℕ). kept (items t) t.logic Y s ≡ true) (old_items f (last_world path) ls p.world way.0 ∙ way.1) e)

    flows_on : (w v : ℕ) → IsEdge t.logic g w v → IsWithin (kept (items t) t.logic (items_of g w)) (items_of g v)
    flows_on w v (inl e) =
        elim (world_cases f (last_world path) ls v (child_within g v w e)) [
          | inl old ↦ (let up = sym (old_parent f (last_world path) ls v old) ∙ e in
              let less : w < v = h.formed.ordered v w up in carries_old w v (omega arith) old (h.flows w v (inl up)))
          | inr new ↦ subst (λ k. IsWithin (kept (items t) t.logic (items_of g w)) (items_of g k)) (sym new)
              (subst (λ Y. IsWithin (kept (items t) t.logic (items_of g w)) Y) (sym (new_items f (last_world path) ls))
              (parent_cases (λ k. IsWithin (kept (items t) t.logic (items_of g k)) (among ls)) flows_new path refl h.way w (new_child v w new e)))
        ]
    flows_on w v (inr e) =
        let both = All-contains (λ l. (l.0 < length f.worlds) × (l.1 < length f.worlds)) f.links (w, v) h.formed.linked e.1 in
        carries_old w v both.0 both.1 (h.flows w v (inr e))

    served_on : (w s c : ℕ) → w < length g.worlds → items_of g w s ≡ true → (entry_at t s).parts ≡ Pi c → HasWitness t.logic g (items_of g) w c ⊎ IsWaiting ((record { world = length f.worlds; label = among ls; item = 0 }) ∷ path) w s
    served_on w s c l there e =
        elim (world_cases f (last_world path) ls w l) [
          | inl old ↦ elim (h.served w s c old (subst (λ (Y : Set ℕ). Y s ≡ true) (old_items f (last_world path) ls w old) there) e) [ inl q ↦ inl (witness_on w c q old) | inr q ↦ inr (inr q) ]
          | inr new ↦ inr (inl (sym new, omega arith))
        ]

    leads_still : (w : ℕ) → LeadsOn t.logic f w → LeadsOn t.logic g w
    leads_still w (v, inl e) = (v, inl (old_parent f (last_world path) ls v (child_within f v w e) ∙ e))
    leads_still w (v, inr e) = (v, inr e)

    nu_waits_on : (w s : ℕ) → w < length f.worlds → NuWaits t path f w s → NuWaits t ((record { world = length f.worlds; label = among ls; item = 0 }) ∷ path) g w s
    nu_waits_on w s l (inl q) = inl (inr q)
    nu_waits_on w s l (inr (i, there, pi, q)) = inr (i, subst (λ (Y : Set ℕ). Y i ≡ true) (sym (old_items f (last_world path) ls w l)) there, pi, inr q)

    serial_on :
        has_serial t.logic ≡ true → (w s : ℕ) → w < length g.worlds → is_nu (entry_at t s).parts ≡ true → items_of g w s ≡ true →
        LeadsOn t.logic g w ⊎ NuWaits t ((record { world = length f.worlds; label = among ls; item = 0 }) ∷ path) g w s
    serial_on serial w s l nu there =
        elim (world_cases f (last_world path) ls w l) [
          | inl old ↦ elim (h.serial serial w s old nu (subst (λ (Y : Set ℕ). Y s ≡ true) (old_items f (last_world path) ls w old) there)) [ inl q ↦ inl (leads_still w q) | inr q ↦ inr (nu_waits_on w s old q) ]
          | inr new ↦ inr (inl (inl (sym new, omega arith)))
        ]

    low_on : (w : ℕ) → w < length g.worlds → height_on w ≤ n
    low_on w l =
        elim (world_cases f (last_world path) ls w l) [
          | inl old ↦ (let same = height_old w old in omega (arith, same, h.heights.low w old))
          | inr new ↦ (let same = height_new w new in omega (arith, same, high))
        ]

    falls_new : (p : Past) (ps : List Past) → path ≡ p ∷ ps → IsOnWay n h.heights.height f (p ∷ ps) → left < height_on p.world
    falls_new p ps q way = (let long = ap length q in let same = height_old p.world way.0 in omega (arith, long, same, high, way.3))

    falls_on : (w v : ℕ) → v < length g.worlds → (world_at g v).parent ≡ Some w → height_on v < height_on w
    falls_on w v l e =
        elim (world_cases f (last_world path) ls v l) [
          | inl old ↦ (let up = sym (old_parent f (last_world path) ls v old) ∙ e in
              let less : w < v = h.formed.ordered v w up in
              let down = h.heights.falls w v old up in
              let one = height_old v old in
              let two = height_old w (omega arith) in omega (arith, down, one, two))
          | inr new ↦ (let one = height_new v new in
              let less : left < height_on w = parent_cases (λ k. left < height_on k) falls_new path refl h.way w (new_child v w new e) in
              omega (arith, one, less))
        ]

    way_old : (ps : List Past) → IsOnWay n h.heights.height f ps → IsOnWay n height_on g ps
    way_old [] way = tt
    way_old (p ∷ ps) way = (
      omega (arith, length_with f (last_world path) ls, way.0),
      old_items f (last_world path) ls p.world way.0 ∙ way.1,
      old_parent f (last_world path) ls p.world way.0 ∙ way.2,
      (let same = height_old p.world way.0 in omega (arith, same, way.3)),
      way_old ps way.4,
    )

    root_on : 0 < length g.worlds → IsWithin X (items_of g 0)
    root_on l =
        elim (cases_lt 0 (length f.worlds)) [
          | inl some ↦ subst (IsWithin X) (sym (old_items f (last_world path) ls 0 some)) (h.root some)
          | inr none ↦ (let zero_ : length f.worlds ≡ 0 = omega arith in
              subst (λ k. IsWithin X (items_of g k)) zero_ (subst (IsWithin X) (sym (new_items f (last_world path) ls)) (begins zero_)))
        ]

    pub sound_push : IsSound t n X ((record { world = length f.worlds; label = among ls; item = 0 }) ∷ path) g
    sound_push = record {
      formed = record {
        ordered = ordered_on;
        linked = All-weaker (λ l. (l.0 < length f.worlds) × (l.1 < length f.worlds)) (λ l. (l.0 < length g.worlds) × (l.1 < length g.worlds))
            (λ l both. (let m = length_with f (last_world path) ls in (omega (arith, m, both.0), omega (arith, m, both.1)))) f.links h.formed.linked;
      };
      inside = items_more t f (last_world path) ls h.inside own;
      unclosed = λ w l. elim (world_cases f (last_world path) ls w l) [
        | inl old ↦ subst (IsUnclosedLabel t) (sym (old_items f (last_world path) ls w old)) (h.unclosed w old)
        | inr new ↦ subst (λ k. IsUnclosedLabel t (items_of g k)) (sym new) (subst (IsUnclosedLabel t) (sym (new_items f (last_world path) ls)) unclosed)
      ];
      flows = flows_on;
      served = served_on;
      serial = serial_on;
      root = root_on;
      heights = record { height = height_on; low = low_on; falls = falls_on };
      way = (omega (arith, length_with f (last_world path) ls), new_items f (last_world path) ls, new_parent f (last_world path) ls, (let same = height_new (length f.worlds) refl in omega (arith, same, high)), way_old path h.way);
    }

-- one link more, from the last world of the path
module _ (t : Table) (n : ℕ) (X Y : Set ℕ) (path : List Past) (f : Fragment) (w v k c : ℕ) (h : IsSound t n X ((record { world = w; label = Y; item = k }) ∷ path) f) (below : v < length f.worlds)
    (serves : IsServedBy t Y (items_of f v) c) where
  abbrev linked_on : Fragment
  linked_on = with_link f w v

  edge_on : (a b : ℕ) → IsEdge t.logic f a b → IsEdge t.logic linked_on a b
  edge_on a b (inl e) = inl e
  edge_on a b (inr e) = inr (e.0, Contains-append_left f.links ((w, v) ∷ []) (a, b) e.1)

  witness_linked : (a s : ℕ) → HasWitness t.logic f (items_of f) a s → HasWitness t.logic linked_on (items_of linked_on) a s
  witness_linked a s (inl own) = inl own
  witness_linked a s (inr (b, inl e, there)) = inr (b, inl (edge_on a b e), there)
  witness_linked a s (inr (b, inr e, there)) = inr (b, inr e, there)

  flows_linked : (a b : ℕ) → IsEdge t.logic linked_on a b → IsWithin (kept (items t) t.logic (items_of f a)) (items_of f b)
  flows_linked a b (inl e) = h.flows a b (inl e)
  flows_linked a b (inr e) =
      elim (Contains-push_cases f.links (w, v) (a, b) e.1) [
        | inl old ↦ h.flows a b (inr (e.0, old))
        | inr new ↦ (let from : w ≡ a = ap (λ (x : ℕ × ℕ). x.0) new in let to : v ≡ b = ap (λ (x : ℕ × ℕ). x.1) new in
            subst (λ x. IsWithin (kept (items t) t.logic (items_of f x)) (items_of f b)) from
            (subst (λ x. IsWithin (kept (items t) t.logic (items_of f w)) (items_of f x)) to
            (subst (λ Z. IsWithin (kept (items t) t.logic Z) (items_of f v)) (sym h.way.1) serves.2)))
      ]

  leads_linked : (a : ℕ) → LeadsOn t.logic f a → LeadsOn t.logic linked_on a
  leads_linked a (b, e) = (b, edge_on a b e)

  way_linked : (height : ℕ → ℕ) (ps : List Past) → IsOnWay n height f ps → IsOnWay n height linked_on ps
  way_linked height [] way = tt
  way_linked height (p ∷ ps) way = (way.0, way.1, way.2, way.3, way_linked height ps way.4)

  pub sound_link : IsSound t n X ((record { world = w; label = Y; item = k }) ∷ path) linked_on
  sound_link = record {
    formed = record { ordered = h.formed.ordered; linked = All-push (λ l. (l.0 < length f.worlds) × (l.1 < length f.worlds)) f.links (w, v) h.formed.linked (h.way.0, below) };
    inside = h.inside;
    unclosed = h.unclosed;
    flows = flows_linked;
    served = λ a s x l there e. elim (h.served a s x l there e) [ inl q ↦ inl (witness_linked a x q) | inr q ↦ inr q ];
    serial = λ serial a s l nu there. elim (h.serial serial a s l nu there) [ inl q ↦ inl (leads_linked a q) | inr q ↦ inr q ];
    root = h.root;
    heights = record { height = h.heights.height; low = h.heights.low; falls = h.heights.falls };
    way = way_linked h.heights.height ((record { world = w; label = Y; item = k }) ∷ path) h.way;
  }

  -- which serves the π
  pub link_witness : HasWitness t.logic linked_on (items_of linked_on) w c
  link_witness = inr (v, inl (inr (serves.0, Contains-push f.links (w, v))), serves.1)

-- the next item is served
module _ (t : Table) (n : ℕ) (X Y : Set ℕ) (path : List Past) (f : Fragment) (w k : ℕ) (h : IsSound t n X ((record { world = w; label = Y; item = k }) ∷ path) f)
    (pis : (c : ℕ) → Y k ≡ true → (entry_at t k).parts ≡ Pi c → HasWitness t.logic f (items_of f) w c)
    (nus : has_serial t.logic ≡ true → Y k ≡ true → is_nu (entry_at t k).parts ≡ true → LeadsOn t.logic f w ⊎ (others_ask t Y k ≡ true)) where
  abbrev now : List Past
  now = (record { world = w; label = Y; item = k }) ∷ path

  abbrev next : List Past
  next = (record { world = w; label = Y; item = k + 1 }) ∷ path

  served_now : (a : ℕ) → w ≡ a → items_of f a k ≡ true → Y k ≡ true
  served_now a same there = subst (λ (Z : Set ℕ). Z k ≡ true) h.way.1 (subst (λ b. items_of f b k ≡ true) (sym same) there)

  pis_wait : (a s c : ℕ) → items_of f a s ≡ true → (entry_at t s).parts ≡ Pi c → IsWaiting now a s → HasWitness t.logic f (items_of f) a c ⊎ IsWaiting next a s
  pis_wait a s c there e (inr q) = inr (inr q)
  pis_wait a s c there e (inl q) =
      elim (cases_lt k s) [
        | inl later ↦ inr (inl (q.0, omega arith))
        | inr here ↦ (let same : s ≡ k = omega (arith, q.1) in
            inl (subst (λ b. HasWitness t.logic f (items_of f) b c) q.0 (pis c (served_now a q.0 (subst (λ i. items_of f a i ≡ true) same there)) (ap (λ i. (entry_at t i).parts) (sym same) ∙ e))))
      ]

  module _ (serial : has_serial t.logic ≡ true) where
    -- a π of a world that waits still does, or has brought an edge
    pi_leads : (a s i : ℕ) → items_of f a i ≡ true → is_pi (entry_at t i).parts ≡ true → IsWaiting now a i → LeadsOn t.logic f a ⊎ NuWaits t next f a s
    pi_leads a s i there pi q =
        let (c, e) = pi_with (entry_at t i).parts pi in
        elim (pis_wait a i c there e q) [ inl found ↦ inl (witness_leads t.logic f (items_of f) a c serial found) | inr waits ↦ inr (inr (i, there, pi, waits)) ]

    -- what asks in place of the ν k waits, or has brought an edge
    pi_before : (i : ℕ) → items_of f w i ≡ true → is_pi (entry_at t i).parts ≡ true → LeadsOn t.logic f w ⊎ NuWaits t next f w k
    pi_before i there pi =
        let (c, e) = pi_with (entry_at t i).parts pi in
        elim (h.served w i c h.way.0 there e) [ inl found ↦ inl (witness_leads t.logic f (items_of f) w c serial found) | inr waits ↦ pi_leads w k i there pi waits ]

    nu_before : (i : ℕ) → i < k → items_of f w i ≡ true → is_nu (entry_at t i).parts ≡ true → LeadsOn t.logic f w ⊎ NuWaits t next f w k
    nu_before i l there nu =
        elim (h.serial serial w i h.way.0 nu there) [
          | inl leads ↦ inl leads
          | inr (inl (inl q)) ↦ absurd (omega (arith, l, q.1))
          | inr (inl (inr q)) ↦ inr (inl (inr (waiting_more path w i k (omega arith) q)))
          | inr (inr (j, here, pi, q)) ↦ pi_leads w k j here pi q
        ]

    others_lead : others_ask t Y k ≡ true → LeadsOn t.logic f w ⊎ NuWaits t next f w k
    others_lead asks =
        let (i, l, e) = any_below_cases (λ i. Y i && goes_before t k i) (item_count t) asks in
        let both = and_parts (Y i) (goes_before t k i) e in
        let there : items_of f w i ≡ true = subst (λ (Z : Set ℕ). Z i ≡ true) (sym h.way.1) both.0 in
        elim (or_cases (is_pi (entry_at t i).parts) (is_nu (entry_at t i).parts && nat_lt i k) both.1) [
          | inl pi ↦ pi_before i there pi
          | inr nu ↦ (let parts = and_parts (is_nu (entry_at t i).parts) (nat_lt i k) nu in nu_before i (ltb-true i k parts.1) there parts.0)
        ]

    nu_waits : (a s : ℕ) → items_of f a s ≡ true → is_nu (entry_at t s).parts ≡ true → NuWaits t now f a s → LeadsOn t.logic f a ⊎ NuWaits t next f a s
    nu_waits a s there nu (inr (i, here, pi, q)) = pi_leads a s i here pi q
    nu_waits a s there nu (inl (inr q)) = inr (inl (inr q))
    nu_waits a s there nu (inl (inl q)) =
        elim (cases_lt k s) [
          | inl later ↦ inr (inl (inl (q.0, omega arith)))
          | inr here ↦ (let same : k ≡ s = omega (arith, q.1) in
              subst (λ b. LeadsOn t.logic f b ⊎ NuWaits t next f b s) q.0
              (subst (λ i. LeadsOn t.logic f w ⊎ NuWaits t next f w i) same
              (elim (nus serial (served_now a q.0 (subst (λ i. items_of f a i ≡ true) (sym same) there)) (subst (λ i. is_nu (entry_at t i).parts ≡ true) (sym same) nu)) [ inl leads ↦ inl leads | inr asks ↦ others_lead asks ])))
        ]

  pub sound_next : IsSound t n X next f
  sound_next = record {
    formed = h.formed;
    inside = h.inside;
    unclosed = h.unclosed;
    flows = h.flows;
    served = λ a s c l there e. elim (h.served a s c l there e) [ inl q ↦ inl q | inr q ↦ pis_wait a s c there e q ];
    serial = λ serial a s l nu there. elim (h.serial serial a s l nu there) [ inl q ↦ inl q | inr q ↦ nu_waits serial a s there nu q ];
    root = h.root;
    heights = h.heights;
    way = h.way;
  }

-- all items of the last world of the path are served
pub sound_done : (t : Table) (n : ℕ) (X Y : Set ℕ) (path : List Past) (f : Fragment) (w k : ℕ) → IsSound t n X ((record { world = w; label = Y; item = k }) ∷ path) f → item_count t ≤ k → IsSound t n X path f
sound_done t n X Y path f w k h all = record {
  formed = h.formed;
  inside = h.inside;
  unclosed = h.unclosed;
  flows = h.flows;
  served = λ a s c l there e. elim (h.served a s c l there e) [ inl q ↦ inl q | inr q ↦ inr (waits a s there q) ];
  serial = λ serial a s l nu there. elim (h.serial serial a s l nu there) [
    | inl q ↦ inl q
    | inr (inl q) ↦ inr (inl (waits a s there q))
    | inr (inr (i, here, pi, q)) ↦ inr (inr (i, here, pi, waits a i here q))
  ];
  root = h.root;
  heights = h.heights;
  way = h.way.4;
} where
  waits : (a s : ℕ) → items_of f a s ≡ true → IsWaiting ((record { world = w; label = Y; item = k }) ∷ path) a s → IsWaiting path a s
  waits a s there (inr q) = q
  waits a s there (inl q) = absurd (let below = among_all (item_count t) (world_at f a).label (h.inside a) s there in omega (arith, below, q.1))
