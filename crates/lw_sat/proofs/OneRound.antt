-- One round more of a saturation.
use Rattle.std.proofs.Common.{◌≡◌, ℕ, ◌+◌, ◌*◌, ◌<◌, ◌≤◌, Bool, true, Option, List, [], ◌∷◌, ◌++◌, refl, sym, subst, inl, inr, arith}
use Rattle.std.proofs.lemmas.Bool.{or_cases, false≢true}
use Rattle.lw_pool.specs.declared.id.SignedId.{SignedId}
use Rattle.lw_proof.specs.declared.rule.Rule.{Rule}
use Rattle.lw_proof.specs.System.{Set}
use Rattle.lw_proof.specs.Tree.{Tree, node, none}
use Rattle.lw_closure.specs.Table.{Table, item_at, item_count}
use Rattle.lw_sat.specs.declared.board.Board.{Board}
use Rattle.lw_sat.specs.declared.frame.Frame.{Frame}
use Rattle.lw_sat.specs.declared.frame.Frame.TheVariants.{Alone, First}
use Rattle.lw_sat.specs.Sets.{adding, among, lower, nothing, top, weight, weights, IsOfItems}
use Rattle.lw_sat.specs.Closing.{Rests}
use Rattle.lw_sat.specs.Moves.{listed, Moves}
use Rattle.lw_sat.specs.SeedPath.{root, spot_of, Becomes, Chain, room_at, room_below}
use Rattle.lw_sat.specs.Saturated.{IsAt, IsClosing, room}
use Rattle.lw_sat.specs.Private.LabelWork.{IsLeaf}
use Rattle.lw_sat.proofs.BoardSpots.{kept_of, lower_of, set_of}
use Rattle.lw_sat.proofs.FoldedPremises.{adding_lighter}
use Rattle.lw_sat.proofs.SetWeights.{weight_some, weights_on}
use Rattle.lw_sat.proofs.PathEnds.{chain_items, chain_on}
use Rattle.lw_sat.proofs.UsedItems.{each_in, each_added}

module _ (t : Table) (X : Set ℕ) (test : Set ℕ → Bool) (frames : List Frame) (b : Board) (h : IsAt t X test frames b) where
  -- the label has items alone
  pub at_items : IsOfItems t (top b.labels)
  at_items = chain_items t test frames (root X) (spot_of b) h.leads h.seed

  -- a rule without premises closes the label
  pub leaf_closing : (rule : Rule) (item : ℕ) (used : ℕ × Option ℕ) (c : Board) (p : Tree SignedId) → IsLeaf t (top b.labels) rule item (listed used) →
      p ≡ node rule (item_at t item) none → Becomes b c (record (spot_of b) { set = adding (listed used) nothing }) → IsClosing t X test frames c p
  leaf_closing rule item used c p leaf is becomes =
      record {
        wide = (let wide = h.wide in let bits = becomes.bits in omega arith);
        seed = h.seed;
        spot = spot_of b;
        leads = h.leads;
        closed = record {
          below = lower_of b c _ becomes;
          kept = kept_of b c _ becomes;
          rests = subst (λ U. Rests t U (top b.labels) p) (sym (set_of b c _ becomes)) (subst (λ q. Rests t (adding (listed used) nothing) (top b.labels) q) (sym is) rests);
        };
      } where
        rests : Rests t (adding (listed used) nothing) (top b.labels) (node rule (item_at t item) none)
        rests = record {
          tree = node rule item none;
          named = refl;
          principals = (leaf.below, tt);
          within = λ i e. elim (or_cases (among (listed used) i) (nothing i) e) [ inl a ↦ each_in (listed used) (top b.labels) leaf.there i a | inr z ↦ absurd (false≢true z) ];
          closes = leaf.closes (adding (listed used) nothing) (each_added (listed used) nothing);
          grows = leaf.grows;
        }

  -- a rule with one premise puts something into the label
  pub grown : (rule : Rule) (item : ℕ) (s : ℕ × Option ℕ) (f : Frame) (c : Board) → Moves t (top b.labels) rule item (listed s ∷ []) → test (adding (listed s) (top b.labels)) ≡ true →
      f ≡ Alone rule item s → Becomes b c (record (spot_of b) { set = adding (listed s) (top b.labels) }) → IsAt t X test (frames ++ f ∷ []) c
  grown rule item s f c m passes is becomes = record {
    wide = (let wide = h.wide in let bits = becomes.bits in omega arith);
    seed = h.seed;
    leads = subst (λ g. Chain t test (root X) (frames ++ g ∷ []) (spot_of c)) (sym is) (chain_on t test frames (Alone rule item s) (root X) (spot_of b) (spot_of c) h.leads (m, becomes.spot));
    passes = subst (λ Y. test Y ≡ true) (sym (set_of b c _ becomes)) passes;
  }

  -- the label becomes a branch point of a rule with two premises
  pub branched : (rule : Rule) (item : ℕ) (p q : ℕ × Option ℕ) (f : Frame) (c : Board) → Moves t (top b.labels) rule item (listed p ∷ listed q ∷ []) → test (adding (listed p) (top b.labels)) ≡ true → test (adding (listed q) (top b.labels)) ≡ true →
      f ≡ First rule item p q → Becomes b c (record (spot_of b) { set = adding (listed p) (top b.labels); below = lower b.labels ++ top b.labels ∷ [] }) → IsAt t X test (frames ++ f ∷ []) c
  branched rule item p q f c m passes waits is becomes = record {
    wide = (let wide = h.wide in let bits = becomes.bits in omega arith);
    seed = h.seed;
    leads = subst (λ g. Chain t test (root X) (frames ++ g ∷ []) (spot_of c)) (sym is) (chain_on t test frames (First rule item p q) (root X) (spot_of b) (spot_of c) h.leads (m, waits, becomes.spot));
    passes = subst (λ Y. test Y ≡ true) (sym (set_of b c _ becomes)) passes;
  }

  -- less is left to do after either
  pub grown_room : (rule : Rule) (item : ℕ) (s : ℕ × Option ℕ) (c : Board) → Moves t (top b.labels) rule item (listed s ∷ []) →
      Becomes b c (record (spot_of b) { set = adding (listed s) (top b.labels) }) → room c < room b
  grown_room rule item s c m becomes =
      let light = adding_lighter (item_count t) b.bits (listed s) (top b.labels) h.wide m.sides.0 m.gains.0 in
      let new : room c ≡ weights b.bits (lower b.labels) + 2 * weight (adding (listed s) (top b.labels)) b.bits = (λ i. room_at (becomes.bits i) (becomes.spot i)) in
      omega (arith, light, new, weight_some (top b.labels) b.bits)

  pub branched_room : (rule : Rule) (item : ℕ) (p q : ℕ × Option ℕ) (c : Board) → Moves t (top b.labels) rule item (listed p ∷ listed q ∷ []) →
      Becomes b c (record (spot_of b) { set = adding (listed p) (top b.labels); below = lower b.labels ++ top b.labels ∷ [] }) → room c < room b
  branched_room rule item p q c m becomes =
      let light = adding_lighter (item_count t) b.bits (listed p) (top b.labels) h.wide m.sides.0 m.gains.0 in
      let new : room c ≡ weights b.bits (lower b.labels ++ top b.labels ∷ []) + 2 * weight (adding (listed p) (top b.labels)) b.bits = (λ i. room_at (becomes.bits i) (becomes.spot i)) in
      let all = weights_on b.bits (lower b.labels) (top b.labels) in
      omega (arith, light, new, all, weight_some (top b.labels) b.bits)

-- what waits at branch points is part of what is left to do
pub below_room : (b c : Board) (U : Set ℕ) → Becomes b c (record (spot_of b) { set = U }) → room_below c.bits (spot_of c) ≤ room b
below_room b c U becomes =
    let new : room_below c.bits (spot_of c) ≡ weights b.bits (lower b.labels) = (λ i. room_below (becomes.bits i) (becomes.spot i)) in
    omega (arith, new)
