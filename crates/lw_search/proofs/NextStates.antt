-- How a search goes on from one state to the next.
use Rattle.std.proofs.Common.{◌≡◌, ℕ, suc, ◌+◌, ◌-◌, ◌*◌, ◌<◌, ◌≤◌, ◌⊎◌, ◌||◌, Bool, true, Option, Some, List, [], ◌∷◌, ◌++◌, length, inl, inr, refl, sym, ap, subst, ◌∙◌, arith}
use Rattle.std.specs.Bool.{IsTrue}
use Rattle.std.specs.List.{All}
use Rattle.std.specs.Option.{ForSome}
use Rattle.std.proofs.lemmas.Bool.{and_from, or_left, or_right, false≢true}
use Rattle.std.proofs.lemmas.List.{length_push}
use Rattle.lw_formula.specs.declared.parts.Parts.TheVariants.{Nu, Pi}
use Rattle.lw_model.specs.Bounds.{tree_size}
use Rattle.lw_proof.specs.System.{Set, IsWithin}
use Rattle.lw_proof.specs.Derivation.{added, has_serial, is_nu, kept}
use Rattle.lw_closure.specs.Table.{Table, entry_at, item_count}
use Rattle.lw_closure.specs.Items.{items}
use Rattle.lw_closure.specs.Unclosed.{IsUnclosedLabel}
use Rattle.lw_counter.specs.Fragment.{Fragment, world_at, items_of, cut_to, with_world, with_link}
use Rattle.lw_counter.specs.Open.{HasWitness}
use Rattle.lw_counter.proofs.FragmentChanges.{cut_link, cut_push, cut_self, cut_twice, length_with}
use Rattle.lw_sat.specs.SeedPath.{Spot, most_steps, root, room_below, spot_of, IsWide}
use Rattle.lw_sat.specs.Saturated.{room, IsAt}
use Rattle.lw_sat.specs.Sets.{among, top, weight, IsOfItems}
use Rattle.lw_sat.proofs.SetWeights.{weight_some}
use Rattle.lw_sat.proofs.PathEnds.{chain_items, chain_within}
use Rattle.lw_search.specs.declared.level.Level.{Level}
use Rattle.lw_search.specs.declared.level.Search.{Search}
use Rattle.lw_search.specs.declared.level.Served.TheVariants.{ByStep, Done}
use Rattle.lw_search.specs.Explored.{IsExplored}
use Rattle.lw_search.specs.Private.SearchLevels.{Aim, Begins, IsServing, IsUnderWork, Nested, Place, Serves, Waits, above, child_room, child_size, held_room, label, most_room, past, serving_room, start, unit, waiting_room, work_room}
use Rattle.lw_search.specs.Ranked.{AsksFor, IsServedBy, LeadsTo, Past, StepsTo}
use Rattle.lw_search.specs.Private.SearchWorlds.{last_world, IsOnWay, IsSound, LeadsOn}
use Rattle.lw_search.specs.Private.StepAskers.{asks_alone, may_ask, others_ask}
use Rattle.lw_search.specs.Step.{askers, count_below, is_asker, seed}
use Rattle.lw_search.specs.Private.SearchTurns.{IsAsked, IsFar, ServesItself, StepFits}
use Rattle.lw_search.proofs.SearchSums.{few_child, few_more, few_start, few_whole, room_descends, room_next, room_settled, unit_is}
use Rattle.lw_search.proofs.FewAskers.{few_asking}
use Rattle.lw_search.proofs.WaitingLevels.{held_on, nested_left, nested_off, nested_on}
use Rattle.lw_search.proofs.StepSeeds.{seed_first, seed_items}
use Rattle.lw_search.proofs.FragmentGrowth.{link_witness, on_way, sound_done, sound_link, sound_next, sound_push, witness_leads}

-- a path that leads to a set leads to each larger one
pub leads_more : (t : Table) (path : List Past) (X Y : Set ℕ) → IsWithin X Y → LeadsTo t path X → LeadsTo t path Y
leads_more t [] X Y h l = tt
leads_more t (p ∷ path) X Y h l = ((l.0.0, l.0.1, λ i e. h i (l.0.2 i e)), l.1)

-- the label of a level has its seed, and items alone
module _ (t : Table) (X : Set ℕ) (test : Set ℕ → Bool) (l : Level) (h : IsAt t X test l.frames.items l.board) where
  pub label_within : IsWithin X (label l)
  label_within = chain_within t test l.frames.items (root X) (spot_of l.board) h.leads

  pub label_items : IsOfItems t (label l)
  label_items = chain_items t test l.frames.items (root X) (spot_of l.board) h.leads h.seed

-- an unclosed label becomes a world
module _ (t : Table) (aim : Aim) (s : Search) (h : IsUnderWork t aim s) (unclosed : IsUnclosedLabel t (label s.level)) (ls : List ℕ) (own : All (λ i. i < item_count t) ls) (same : among ls ≡ label s.level) where
  abbrev a : Place
  a = h.stands.place

  abbrev settled_level : Level
  settled_level = record s.level { world = length s.fragment.worlds; item = 0 }

  abbrev settled_fragment : Fragment
  settled_fragment = with_world s.fragment s.level.parent ls

  abbrev settled : Search
  settled = record s { level = settled_level; fragment = settled_fragment }

  pub parent_there : ForSome s.level.parent (λ w. w < length s.fragment.worlds)
  parent_there w e = there a.path h.stands.is_place.sound.way (sym h.parent ∙ e) where
    there : (ps : List Past) → IsOnWay aim.bound h.stands.is_place.sound.heights.height a.fragment ps → last_world ps ≡ Some w → w < length s.fragment.worlds
    there [] way q = absurd (let bad : ⊥ = cc in bad)
    there (p ∷ ps) way q = (let is : p.world ≡ w = cc in let long = ap (λ (f : Fragment). length f.worlds) h.stands.fragment in omega (arith, way.0, long, is))

  begins_on : length a.fragment.worlds ≡ 0 → IsWithin aim.seed (among ls)
  begins_on e i there = subst (λ (Y : Set ℕ). Y i ≡ true) (sym same) (label_within t a.seed (aim.rank a.path a.left) s.level h.at i (from a.path h.stands.is_place.sound.way h.stands.is_place.begins i there)) where
    from : (ps : List Past) → IsOnWay aim.bound h.stands.is_place.sound.heights.height a.fragment ps → Begins aim.seed ps a.seed → IsWithin aim.seed a.seed
    from [] way b = b
    from (p ∷ ps) way b = absurd (omega (arith, way.0, e))

  flows_to : (p : Past) (ps : List Past) → a.path ≡ p ∷ ps → IsWithin (kept (items t) t.logic p.label) (among ls)
  flows_to p ps e i there =
      let leads : LeadsTo t (p ∷ ps) a.seed = subst (λ qs. LeadsTo t qs a.seed) e h.stands.is_place.leads in
      subst (λ (Y : Set ℕ). Y i ≡ true) (sym same)
      (label_within t a.seed (aim.rank a.path a.left) s.level h.at i
      (leads.0.2 i (or_right (among (added (items t) t.logic p.item leads.0.0) i) (kept (items t) t.logic p.label i) there)))

  pub settled_serving : IsServing t aim settled
  settled_serving =
      let Q : Fragment → Option ℕ → Set ℕ → Type 0 = λ f p X. IsSound t aim.bound aim.seed ((record { world = length f.worlds; label = X; item = 0 }) ∷ a.path) (with_world f p ls) in
      record {
        guides = h.stands.guides;
        place = a;
        nested = h.stands.nested;
        serves = record {
          place = h.stands.is_place;
          at = h.at;
          steps = h.steps;
          parent = h.parent;
          inside = omega arith;
          unclosed = unclosed;
          world = ap (λ (f : Fragment). length f.worlds) h.stands.fragment;
          back = cut_push (length s.fragment.worlds) s.fragment s.level.parent ls (omega arith) ∙ subst (λ (f : Fragment). cut_to (length f.worlds) f ≡ a.fragment) (sym h.stands.fragment) (cut_self a.fragment h.stands.is_place.sound.formed);
          sound =
              subst (λ f. Q f s.level.parent (label s.level)) (sym h.stands.fragment)
              (subst (λ p. Q a.fragment p (label s.level)) (sym h.parent)
              (subst (λ X. Q a.fragment (last_world a.path) X) same
              (sound_push t aim.bound aim.seed a.path a.fragment ls h.stands.is_place.sound a.left own (subst (IsUnclosedLabel t) (sym same) unclosed) begins_on h.stands.is_place.left flows_to)));
          few = few_start (length settled_fragment.worlds) (length s.fragment.worlds) (child_size (askers t) a.left) (length_with s.fragment s.level.parent ls);
        };
      }

  pub settled_room : serving_room t aim.bound settled < work_room t aim.bound s
  settled_room =
      let left = aim.bound - length s.below.items in
      let b = s.level.board in
      room_settled (held_room (item_count t) aim.bound s.below.items) (room_below b.bits (spot_of b)) (unit (item_count t) left) (item_count t) (child_room (item_count t) left) (weight (top b.labels) b.bits)
      (unit_is (item_count t) left) (weight_some (top b.labels) b.bits)

-- a level goes on with its items, up to the item i, where the fragment has become g
serves_on : (t : Table) (aim : Aim) (a : Place) (l : Level) (f g : Fragment) (i : ℕ) → Serves t aim a l f → i ≤ item_count t → cut_to l.world g ≡ a.fragment → IsSound t aim.bound aim.seed (past (record l { item = i }) ∷ a.path) g →
    length g.worlds ≤ l.world + 1 + count_below (may_ask t (label l)) i * child_size (askers t) a.left → Serves t aim a (record l { item = i }) g
serves_on t aim a l f g i h inside back sound few = record {
  place = h.place;
  at = h.at;
  steps = h.steps;
  parent = h.parent;
  inside = inside;
  unclosed = h.unclosed;
  world = h.world;
  back = back;
  sound = sound;
  few = few;
}

-- a link serves a π of the last level
module _ (t : Table) (aim : Aim) (s : Search) (h : IsServing t aim s) (v c : ℕ) (below : v < length s.fragment.worlds) (serves : IsServedBy t (label s.level) (items_of s.fragment v) c) where
  pub linked_serving : IsServing t aim (record s { fragment = with_link s.fragment s.level.world v })
  linked_serving = record {
    guides = h.guides;
    place = h.place;
    nested = h.nested;
    serves = serves_on t aim h.place s.level s.fragment (with_link s.fragment s.level.world v) s.level.item h.serves h.serves.inside (cut_link s.level.world s.fragment s.level.world v (omega arith) ∙ h.serves.back)
        (sound_link t aim.bound aim.seed (label s.level) h.place.path s.fragment s.level.world v s.level.item c h.serves.sound below serves) h.serves.few;
  }

  pub linked_witness : (let f : Fragment = with_link s.fragment s.level.world v in HasWitness t.logic f (items_of f) s.level.world c)
  linked_witness = link_witness t aim.bound aim.seed (label s.level) h.place.path s.fragment s.level.world v s.level.item c h.serves.sound below serves

-- the item of the last level is served: a π has a witness, and in the serial logic an edge leads on from a ν's world, or another item asks in its place
pub record ItemServed (t : Table) (s : Search) : Type 0 where
  pub pis : (c : ℕ) → label s.level s.level.item ≡ true → (entry_at t s.level.item).parts ≡ Pi c → HasWitness t.logic s.fragment (items_of s.fragment) s.level.world c
  pub nus :
      has_serial t.logic ≡ true → label s.level s.level.item ≡ true → is_nu (entry_at t s.level.item).parts ≡ true →
      LeadsOn t.logic s.fragment s.level.world ⊎ (others_ask t (label s.level) s.level.item ≡ true)

-- a witness of the component serves the item
pub witness_serves :
    (t : Table) (s : Search) (c : ℕ) → StepsTo t s.level.item c → HasWitness t.logic s.fragment (items_of s.fragment) s.level.world c → ItemServed t s
witness_serves t s c steps found = record {
  pis = λ d there parts. subst (λ e. HasWitness t.logic s.fragment (items_of s.fragment) s.level.world e) (same d parts) found;
  nus = λ serial there nu. inl (witness_leads t.logic s.fragment (items_of s.fragment) s.level.world c serial found);
} where
  same : (d : ℕ) → (entry_at t s.level.item).parts ≡ Pi d → c ≡ d
  same d parts = elim steps [
    | inl pi ↦ (let both : Pi c ≡ Pi d = sym pi ∙ parts in cc)
    | inr nu ↦ (let both : Nu c ≡ Pi d = sym nu.1 ∙ parts in cc)
  ]

-- the next item of the last level
module _ (t : Table) (aim : Aim) (s : Search) (h : IsServing t aim s) (below : s.level.item < item_count t) where
  abbrev next_level : Level
  next_level = record s.level { item = s.level.item + 1 }

  pub next_serving : ItemServed t s → IsServing t aim (record s { level = next_level })
  next_serving served = record {
    guides = h.guides;
    place = h.place;
    nested = h.nested;
    serves = serves_on t aim h.place s.level s.fragment s.fragment (s.level.item + 1) h.serves (omega arith) h.serves.back
        (sound_next t aim.bound aim.seed (label s.level) h.place.path s.fragment s.level.world s.level.item h.serves.sound served.pis served.nus)
        (few_more (may_ask t (label s.level)) (length s.fragment.worlds) s.level.world s.level.item (child_size (askers t) h.place.left) h.serves.few);
  }

  pub itself_served : ServesItself t (label s.level) s.level.item → ItemServed t s
  itself_served own = record {
    pis = λ c there parts. (let both = own.pi c there parts in inl (both.0, subst (λ (Y : Set ℕ). Y c ≡ true) (sym h.serves.sound.way.1) both.1));
    nus = λ serial there nu. inr (own.nu serial there nu);
  }

  pub next_room : serving_room t aim.bound (record s { level = next_level }) ≤ serving_room t aim.bound s
  next_room =
      let left = aim.bound - length s.below.items in
      room_next (held_room (item_count t) aim.bound s.below.items) (room_below s.level.board.bits (spot_of s.level.board) * unit (item_count t) left) (item_count t) s.level.item (child_room (item_count t) left) below

-- a step: its seed is under work
module _ (t : Table) (aim : Aim) (s : Search) (h : IsServing t aim s) (c : ℕ) (asked : IsAsked t (label s.level) s.level.item c) (far : IsFar t (label s.level) s.fragment c) where
  abbrev from : Place
  from = h.place

  pub asks : AsksFor t from.path (label s.level) s.level.item c
  asks = record {
    items = label_items t from.seed (aim.rank from.path from.left) s.level h.serves.at;
    unclosed = h.serves.unclosed;
    leads = leads_more t from.path from.seed (label s.level) (label_within t from.seed (aim.rank from.path from.left) s.level h.serves.at) h.serves.place.leads;
    there = asked.there;
    steps = asked.steps;
    alone = asked.alone;
    own = λ served. far s.level.world h.serves.sound.way.0 (subst (λ X. IsServedBy t (label s.level) X c) (sym h.serves.sound.way.1) served);
    far = λ p m served.
        (let there = on_way aim.bound h.serves.sound.heights.height s.fragment from.path h.serves.sound.way.4 p m in
        far p.world there.0 (subst (λ X. IsServedBy t (label s.level) X c) (sym there.1) served));
  }

  pub descends : (0 < from.left) × ((entry_at t s.level.item).parts ≡ Pi c → IsTrue (is_asker t s.level.item)) × IsTrue (aim.rank (past s.level ∷ from.path) (from.left - 1) (seed t (label s.level) s.level.item c))
  descends = h.guides.falls from.path from.left (label s.level) s.level.item c s.level.world h.serves.at.passes asks

  asks_here : may_ask t (label s.level) s.level.item ≡ true
  asks_here =
      and_from (label s.level s.level.item) (is_asker t s.level.item || asks_alone t (label s.level) s.level.item) asked.there
      (elim asked.steps [
        | inl pi ↦ or_left (is_asker t s.level.item) (asks_alone t (label s.level) s.level.item) (descends.1 pi)
        | inr nu ↦ or_right (is_asker t s.level.item) (asks_alone t (label s.level) s.level.item) (asked.first nu.1)
      ])

  abbrev to : Place
  to = above t from s.level c s.fragment

  pub descended : (n : Search) → n.below.items ≡ s.below.items ++ s.level ∷ [] → n.level.frames.items ≡ [] → n.level.parent ≡ Some s.level.world → n.fragment ≡ s.fragment → IsWide t n.level.board →
      spot_of n.level.board ≡ root (seed t (label s.level) s.level.item c) → room n.level.board ≤ most_room (item_count t) → StepFits t aim s n ByStep
  descended n below frames parent fragment wide spot few = (under_work, less) where
    under_work : IsUnderWork t aim n
    under_work = record {
      stands = record {
        guides = h.guides;
        place = to;
        nested = subst (λ ls. Nested t aim (start aim) ls to) (sym below) (nested_on t aim s.below.items s.level (start aim) from to h.nested (record { serves = h.serves; inner = c; asks = asks; may = asks_here; next = refl }));
        is_place = record {
          items = seed_items t h.guides.table h.guides.uncut (label s.level) s.level.item c asks.items asked.there asked.steps;
          leads = ((c, asked.steps, λ i e. e), asks.leads);
          left = (let left = h.serves.place.left in omega (arith, descends.0, left));
          begins = tt;
          sound = h.serves.sound;
        };
        fragment = fragment;
      };
      at = subst (λ fs. IsAt t to.seed (aim.rank to.path to.left) fs n.level.board) (sym frames) (record {
        wide = wide;
        seed = seed_items t h.guides.table h.guides.uncut (label s.level) s.level.item c asks.items asked.there asked.steps;
        leads = sym spot;
        passes = subst (λ (Y : Set ℕ). aim.rank to.path to.left Y ≡ true) (sym (ap (λ (x : Spot). x.set) spot)) descends.2;
      });
      steps = subst (λ fs. most_steps fs ≤ to.left) (sym frames) (omega arith);
      parent = parent;
    }

    less : work_room t aim.bound n ≤ serving_room t aim.bound s
    less =
        let k = aim.bound in
        let was = nested_left t aim s.below.items (start aim) from h.nested in
        let long : length n.below.items ≡ length s.below.items + 1 = ap length below ∙ length_push s.below.items s.level in
        let held = ap (held_room (item_count t) k) below ∙ held_on (item_count t) k s.below.items s.level in
        let gone : k - length s.below.items ≡ suc (k - length n.below.items) = omega (arith, descends.0, was, long) in
        room_descends (held_room (item_count t) k n.below.items) (held_room (item_count t) k s.below.items) (most_room (item_count t)) (item_count t) s.level.item
        (child_room (item_count t) (k - length s.below.items)) (unit (item_count t) (k - length n.below.items)) (room n.level.board)
        (room_below s.level.board.bits (spot_of s.level.board) * unit (item_count t) (k - length s.below.items))
        (ap (child_room (item_count t)) gone) held few (asks.items s.level.item asked.there)

-- all items of the last level are served: no more of them asked than the table has askers
few_served : (t : Table) (aim : Aim) (s : Search) (h : IsServing t aim s) → s.level.item ≡ item_count t → count_below (may_ask t (label s.level)) s.level.item ≤ askers t
few_served t aim s h all =
    subst (λ n. count_below (may_ask t (label s.level)) n ≤ askers t) (sym all)
    (few_asking t (label s.level) (label_items t h.place.seed (aim.rank h.place.path h.place.left) s.level h.serves.at) h.guides.some)

-- the level below goes on
module _ (t : Table) (aim : Aim) (s : Search) (h : IsServing t aim s) (all : s.level.item ≡ item_count t) (ls : List Level) (l : Level) (below : s.below.items ≡ ls ++ l ∷ []) where
  abbrev f : Fragment
  f = s.fragment

  pub was_nested : (b : Place) × Nested t aim (start aim) ls b × Waits t aim b l h.place
  was_nested = nested_off t aim ls l (start aim) h.place (subst (λ ks. Nested t aim (start aim) ks h.place) below h.nested)

  abbrev lower : Place
  lower = was_nested.0

  waits : Waits t aim lower l h.place
  waits = was_nested.2

  path_is : h.place.path ≡ past l ∷ lower.path
  path_is = ap (λ (x : Place). x.path) waits.next

  left_is : h.place.left ≡ lower.left - 1
  left_is = ap (λ (x : Place). x.left) waits.next

  seed_is : h.place.seed ≡ seed t (label l) l.item waits.inner
  seed_is = ap (λ (x : Place). x.seed) waits.next

  done : IsSound t aim.bound aim.seed (past l ∷ lower.path) f
  done = subst (λ path. IsSound t aim.bound aim.seed path f) path_is
      (sound_done t aim.bound aim.seed (label s.level) h.place.path f s.level.world s.level.item h.serves.sound (omega (arith, all)))

  child_world : (world_at f s.level.world).parent ≡ Some l.world
  child_world = h.serves.sound.way.2 ∙ ap last_world path_is

  risen_witness : HasWitness t.logic f (items_of f) l.world waits.inner
  risen_witness =
      let begun : seed t (label l) l.item waits.inner waits.inner ≡ true = seed_first t (label l) l.item waits.inner in
      let inside : label s.level waits.inner ≡ true = label_within t h.place.seed (aim.rank h.place.path h.place.left) s.level h.serves.at waits.inner (subst (λ (Y : Set ℕ). Y waits.inner ≡ true) (sym seed_is) begun) in
      inr (s.level.world, inl (inl child_world), subst (λ (Y : Set ℕ). Y waits.inner ≡ true) (sym h.serves.sound.way.1) inside)

  -- as the level goes on with the fragment
  abbrev risen_search : Search
  risen_search = record s { level = l; fragment = f }

  risen_served : ItemServed t risen_search
  risen_served = witness_serves t risen_search waits.inner waits.asks.steps risen_witness

  descends_at : (0 < lower.left) × ((entry_at t l.item).parts ≡ Pi waits.inner → IsTrue (is_asker t l.item)) × IsTrue (aim.rank (past l ∷ lower.path) (lower.left - 1) (seed t (label l) l.item waits.inner))
  descends_at = h.guides.falls lower.path lower.left (label l) l.item waits.inner l.world waits.serves.at.passes waits.asks

  pub item_below : l.item < item_count t
  item_below = waits.asks.items l.item waits.asks.there

  abbrev next_of : Level
  next_of = record l { item = l.item + 1 }

  world_less : l.world < s.level.world
  world_less = let there = waits.serves.sound.way.0 in omega (arith, h.serves.world, there)

  risen_back : cut_to l.world f ≡ lower.fragment
  risen_back = sym (cut_twice l.world s.level.world f (omega (arith, world_less))) ∙ ap (cut_to l.world) h.serves.back ∙ waits.serves.back

  child_few : length f.worlds ≤ s.level.world + tree_size (askers t) (lower.left - 1)
  child_few =
      subst (λ n. length f.worlds ≤ s.level.world + tree_size (askers t) n) left_is
      (few_whole (length f.worlds) s.level.world (count_below (may_ask t (label s.level)) s.level.item) (askers t) h.place.left (few_served t aim s h all) h.serves.few)

  pub risen_serves : Serves t aim lower next_of f
  risen_serves =
      serves_on t aim lower l h.place.fragment f (l.item + 1) waits.serves (omega (arith, item_below)) risen_back (sound_next t aim.bound aim.seed (label l) lower.path f l.world l.item done risen_served.pis risen_served.nus)
      (few_child (may_ask t (label l)) (length f.worlds) s.level.world l.world l.item (askers t) lower.left waits.may descends_at.0
      (subst (λ w. w ≤ l.world + 1 + count_below (may_ask t (label l)) l.item * child_size (askers t) lower.left) (sym h.serves.world) waits.serves.few) child_few)

  pub risen : (n : Search) → n.below.items ≡ ls → n.level ≡ next_of → n.fragment ≡ f → IsServing t aim n × (serving_room t aim.bound n ≤ serving_room t aim.bound s)
  risen n e level fragment = (
    record {
      guides = h.guides;
      place = lower;
      nested = subst (λ ks. Nested t aim (start aim) ks lower) (sym e) was_nested.1;
      serves = subst (λ g. Serves t aim lower n.level g) (sym fragment) (subst (λ k. Serves t aim lower k f) (sym level) risen_serves);
    },
    let k = aim.bound in
        let held : held_room (item_count t) k s.below.items ≡ held_room (item_count t) k ls + waiting_room (item_count t) (k - length ls) l = ap (held_room (item_count t) k) below ∙ held_on (item_count t) k ls l in
        let new : serving_room t k n ≡ held_room (item_count t) k ls + waiting_room (item_count t) (k - length ls) l =
        (λ i. held_room (item_count t) k (e i)
        + (room_below (level i).board.bits (spot_of (level i).board) * unit (item_count t) (k - length (e i)) + (item_count t - (level i).item) * child_room (item_count t) (k - length (e i)))) in
        omega (arith, held, new),
  )

-- no level is left: the fragment is open
module _ (t : Table) (aim : Aim) (s : Search) (h : IsServing t aim s) (all : s.level.item ≡ item_count t) (none : s.below.items ≡ []) where
  at_start : h.place ≡ start aim
  at_start = sym (subst (λ ls. Nested t aim (start aim) ls h.place) none h.nested)

  whole : IsSound t aim.bound aim.seed [] s.fragment
  whole = subst (λ path. IsSound t aim.bound aim.seed path s.fragment) (ap (λ (x : Place). x.path) at_start)
      (sound_done t aim.bound aim.seed (label s.level) h.place.path s.fragment s.level.world s.level.item h.serves.sound (omega (arith, all)))

  pub explored : IsExplored t aim.bound aim.seed s.fragment
  explored = record {
    is_open = record {
      some = (let there = h.serves.sound.way.0 in omega (arith, there));
      formed = whole.formed;
      unclosed = whole.unclosed;
      flows = whole.flows;
      served = λ w l i c there parts. elim (whole.served w i c l there parts) [ inl q ↦ q | inr q ↦ absurd q ];
      round = λ cut. absurd (false≢true (sym h.guides.uncut ∙ cut));
      serial = λ serial w l i nu there. elim (whole.serial serial w i l nu there) [ inl q ↦ q | inr (inl q) ↦ absurd q | inr (inr q) ↦ absurd q.3 ];
    };
    items = whole.inside;
    root = whole.root (let there = h.serves.sound.way.0 in omega (arith, there));
    few =
        let whole = few_whole (length s.fragment.worlds) s.level.world (count_below (may_ask t (label s.level)) s.level.item) (askers t) h.place.left (few_served t aim s h all) h.serves.few in
        let size = ap (λ (x : Place). tree_size (askers t) x.left) at_start in
        let first = ap (λ (x : Place). length x.fragment.worlds) at_start in
        let world = h.serves.world in
        omega (arith, whole, size, first, world);
    heights = whole.heights;
  }

pub serving_room_same : (t : Table) (k : ℕ) (n s : Search) → n.level ≡ s.level → n.below ≡ s.below → serving_room t k n ≡ serving_room t k s
serving_room_same t k n s e f =
    (λ i. held_room (item_count t) k (f i).items
    + (room_below (e i).board.bits (spot_of (e i).board) * unit (item_count t) (k - length (f i).items) + (item_count t - (e i).item) * child_room (item_count t) (k - length (f i).items)))

-- the item of the last level is served
pub item_done : (t : Table) (aim : Aim) (s n : Search) → IsServing t aim n → n.level ≡ s.level → n.below ≡ s.below → s.level.item < item_count t →
    ItemServed t n → StepFits t aim s (record n { level = record n.level { item = s.level.item + 1 } }) Done
item_done t aim s n h level below inside served =
    let item = ap (λ (l : Level). l.item) level in
    let within : n.level.item < item_count t = omega arith in
    let room = next_room t aim n h within in
    let same = serving_room_same t aim.bound n s level below in
    subst (λ (j : ℕ). IsServing t aim (record n { level = record n.level { item = j + 1 } }) × (j + 1 ≡ s.level.item + 1) × (serving_room t aim.bound (record n { level = record n.level { item = j + 1 } }) ≤ serving_room t aim.bound s) × (n.below ≡ s.below)) item
    (next_serving t aim n h within served, ap (λ j. j + 1) item, omega (arith, room, same), below)
