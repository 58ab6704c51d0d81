use Rattle.std.proofs.Common.{refl, sym, subst, ◌∙◌}
use Rattle.lw_sat.specs.Course.{RunFits, StateFits}
use Rattle.lw_sat.specs.SeedPath.{root, spot_of}
use Rattle.lw_sat.proofs.PathEnds.{chain_within}
use Rattle.lw_sat.proofs.UnwoundFrames.{seed_closed}
use Rattle.lw_sat.proofs.saturation.Saturation.next.Goals as goal

pub returns-in-None-clause-found : goal.returns-in-None-clause-found
returns-in-None-clause-found c X test survives h =
    let t = c.args.closure.now in
    let s = c.args.self.now in
    let at = subst (λ st. StateFits t X test s.frames.items s.board st) (sym c.replace.ensures.value ∙ c.in-Working.is) h in
    let fits = subst (λ f. RunFits t X test c.run.new.frames.items c.run.new.board f) c.in-None.is (c.in_ok-run-in-Working.ensures.found X test survives at) in
    record {
      waits = refl;
      under = fits.0;
      seed = chain_within t test c.run.new.frames.items (root X) (spot_of c.run.new.board) fits.0.leads;
      unclosed = fits.1;
      passes = fits.0.passes;
    }

pub returns-in-Some-clause-found : goal.returns-in-Some-clause-found
returns-in-Some-clause-found c X test survives h =
    let t = c.args.closure.now in
    let s = c.args.self.now in
    let at = subst (λ st. StateFits t X test s.frames.items s.board st) (sym c.replace.ensures.value ∙ c.in-Working.is) h in
    seed_closed t X c.run.new.board c.in-Some.proof (subst (λ f. RunFits t X test c.run.new.frames.items c.run.new.board f) c.in-Some.is (c.in_ok-run-in-Working.ensures.found X test survives at))
