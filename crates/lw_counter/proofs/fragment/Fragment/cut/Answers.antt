use Rattle.std.proofs.Common.{rules, ◌≡◌, refl}
use Rattle.std.specs.List.{filter}
use Rattle.std.proofs.lemmas.Fn.{filter_same}
use Rattle.lw_counter.specs.Fragment.{is_below}
use Rattle.lw_counter.proofs.WellFormedFragments.{formed_cut}
use Rattle.lw_counter.proofs.fragment.Fragment.cut.Goals as goal

pub invariant_of-self : goal.invariant_of-self
invariant_of-self c =
    let links : c.retain.new.self.items ≡ filter (is_below c.args.count) c.self.inside.links.items = filter_same _ (is_below c.args.count) _ (λ x b f' k. search rules) _ _ c.retain.ensures.filtered in
    rw (links, c.truncate.ensures.items) (formed_cut c.args.count (record { worlds = c.self.inside.worlds.items; links = c.self.inside.links.items }) c.self.invariant)

pub returns : goal.returns
returns c =
    let links : c.retain.new.self.items ≡ filter (is_below c.args.count) c.self.inside.links.items = filter_same _ (is_below c.args.count) _ (λ x b f' k. search rules) _ _ c.retain.ensures.filtered in
    rw (links, c.truncate.ensures.items, ← c.self.view_is) refl
