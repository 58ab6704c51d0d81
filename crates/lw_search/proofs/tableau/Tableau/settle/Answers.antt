use Rattle.std.proofs.Common.{ℕ, length, sym, ap, subst, ◌∙◌}
use Rattle.lw_counter.specs.Fragment.{Fragment, with_world}
use Rattle.lw_search.specs.Private.SearchLevels.{IsServing}
use Rattle.lw_search.proofs.NextStates.{label_items, settled_room, settled_serving}
use Rattle.lw_search.proofs.tableau.Tableau.settle.Goals as goal

pub items_in-requires : goal.items_in-requires
items_in-requires g c =
    let h = c.requires.work.1 in
    label_items c.args.self.now h.stands.place.seed (c.requires.work.0.rank h.stands.place.path h.stands.place.left) c.args.search.now.level h.at

pub returns-clause-serving : goal.returns-clause-serving
returns-clause-serving g c aim h =
    let s = c.args.search.now in
    let settled = λ (w : ℕ) (f : Fragment). IsServing c.args.self.now aim (record s { level = record s.level { world = w; item = 0 }; fragment = f }) in
    subst (λ (w : ℕ). settled w c.add.new.self) (sym c.in_ok-search.ensures.number)
    (subst (λ (f : Fragment). settled (length s.fragment.worlds) f) (sym (c.in_ok-search.ensures.added ∙ ap (with_world s.fragment s.level.parent) c.deref.ensures.value))
    (settled_serving c.args.self.now aim s h c.requires.unclosed c.in_ok-items.items.items c.in_ok-items.ensures.below c.in_ok-items.ensures.same))

pub returns-clause-room : goal.returns-clause-room
returns-clause-room g c aim h = settled_room c.args.self.now aim c.args.search.now h c.requires.unclosed c.in_ok-items.items.items c.in_ok-items.ensures.below c.in_ok-items.ensures.same
