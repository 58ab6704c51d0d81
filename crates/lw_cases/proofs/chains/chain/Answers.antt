use Rattle.std.proofs.Common.{◌<◌, sym, subst, arith}
use Rattle.std.proofs.lemmas.List.Elements.{All-nil}
use Rattle.lw_closure.specs.Table.{item_count}
use Rattle.lw_counter.specs.Fragment.{Fragment, HasItemsOf}
use Rattle.lw_counter.proofs.WellFormedFragments.{items_cut}
use Rattle.lw_cases.proofs.chains.chain.Goals as goal

pub returns-clause-items : goal.returns-clause-items
returns-clause-items c t l =
    let start : HasItemsOf t c.new-fragment.result = subst (λ (f : Fragment). HasItemsOf t f) (sym c.new-fragment.ensures) (λ w. All-nil (λ i. i < item_count t)) in
    let first : HasItemsOf t c.grow.new.fragment = c.in_ok-grow.ensures.items t l start in
    let second : HasItemsOf t c.grow-2.new.fragment = c.in_ok-grow-2.ensures.items t (omega (arith, l)) first in
    let third : HasItemsOf t c.grow-3.new.fragment = c.in_ok-grow-3.ensures.items t (omega (arith, l)) second in
    let fourth : HasItemsOf t c.grow-4.new.fragment = c.in_ok-grow-4.ensures.items t (omega (arith, l)) third in
    let linked : HasItemsOf t c.link.new.self = subst (λ (f : Fragment). HasItemsOf t f) (sym c.in_ok-link.ensures.added) fourth in
    let twice : HasItemsOf t c.link-2.new.self = subst (λ (f : Fragment). HasItemsOf t f) (sym c.in_ok-link-2.ensures.added) linked in
    subst (λ (f : Fragment). HasItemsOf t f) (sym c.cut.ensures) (items_cut t 3 c.link-2.new.self twice)
