use Rattle.std.proofs.Common.{ap, ◌∙◌}
use Rattle.lw_proof.specs.Derivation.{has_cut}
use Rattle.lw_search.proofs.FirstState.{begun, goal_of, guides_from}
use Rattle.lw_search.specs.Ranked.{IsFor}
use Rattle.lw_search.proofs.explore.explore.Goals as goal

pub invariant_of-tableau : goal.invariant_of-tableau
invariant_of-tableau g c = record {
  table = c.requires.keeps.table;
  logic = c.requires.logic;
  uncut = ap has_cut c.requires.logic ∙ c.requires.ranked.uncut;
}

pub loop-search-init : goal.loop-search-init
loop-search-init g c =
    let ts = c.args.pool.now in
    let t = c.args.closure.now in
    let there = c.in-Some.ensures.there in
    let fits : IsFor g.R.StepRule.logic ts t = record { logic = c.requires.logic; keeps = c.requires.keeps } in
    let is = goal_of ts t c.in-Some.item there c.goal.ensures in
    record {
      goal = is;
      work = begun t (g.R.StepRule.suffice ts t) (g.R.StepRule.bound ts t) c.in-Some.item c.in_ok-search.search (guides_from _ _ _ c.requires.ranked ts t fits) there.0 (c.requires.ranked.begins ts t _ fits is) c.in_ok-search.ensures;
    }

pub advance-requires : goal.advance-requires
advance-requires g c = (_, c.loop-search.invariant.work)

pub loop-search-preserved : goal.loop-search-preserved
loop-search-preserved g c = record { goal = c.loop-search.invariant.goal; work = (rw c.in-Moved.is at (c.in_ok-advance.ensures _ c.loop-search.invariant.work)).0 }

pub loop-search-smaller : goal.loop-search-smaller
loop-search-smaller g c = (rw c.in-Moved.is at (c.in_ok-advance.ensures _ c.loop-search.invariant.work)).1

pub returns-in-Done : goal.returns-in-Done
returns-in-Done g c = (_, c.loop-search.invariant.goal, rw c.in-Done.is at (c.in_ok-advance.ensures _ c.loop-search.invariant.work))

pub returns-in-Closed : goal.returns-in-Closed
returns-in-Closed g c = (_, c.loop-search.invariant.goal, rw c.in-Closed.is at (c.in_ok-advance.ensures _ c.loop-search.invariant.work))
