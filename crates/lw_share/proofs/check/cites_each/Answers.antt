use Rattle.std.proofs.Common.{◌∙◌, refl, sym, rules}
use Rattle.std.proofs.lemmas.Bool.{false≢true}
use Rattle.lw_share.proofs.CitedLines.{each_more, not_each, all_cited, cited_count}
use Rattle.lw_share.proofs.check.cites_each.Goals as goal

pub returns-then-cites-premises : goal.returns-then-cites-premises
returns-then-cites-premises c = (
  λ e. absurd (false≢true e),
  λ each. absurd (c.if-cites-premises.true (cited_count c.args.pool.now c.args.table.now c.args.cites.now c.args.premises.now each)),
)

pub returns-then-not-is_within : goal.returns-then-not-is_within
returns-then-not-is_within c = (
  λ e. absurd (false≢true e),
  λ each. absurd (not_each c.args.pool.now c.args.table.now c.args.cites.now c.args.premises.now c.loop-i.i c.loop-i-test.true (search rules) _ _ c.set.ensures (search rules)
      c.requires.cites (λ h. false≢true (sym c.if-not-is_within.true ∙ c.is_within.ensures.1 h)) each),
)

pub loop-i-preserved : goal.loop-i-preserved
loop-i-preserved c =
    each_more c.args.pool.now c.args.table.now c.args.cites.now c.args.premises.now c.loop-i.i c.loop-i-test.true (search rules) _ _ c.set.ensures (search rules)
    (c.is_within.ensures.0 c.if-not-is_within.false) c.loop-i.invariant

pub returns : goal.returns
returns c = (
  λ e. all_cited c.args.pool.now c.args.table.now c.args.cites.now c.args.premises.now (search rules) c.requires.cites (λ k d e b. c.loop-i.invariant k d e (search rules)),
  λ h. refl,
)
