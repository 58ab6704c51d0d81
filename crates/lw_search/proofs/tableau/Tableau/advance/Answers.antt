use Rattle.std.proofs.Common.{arith}
use Rattle.lw_search.proofs.tableau.Tableau.advance.Goals as goal

pub fall-requires : goal.fall-requires
fall-requires g c = (_, (rw c.in-Some.is at (c.in_ok-proof.ensures _ c.requires.1)).0)

pub settle-requires-clause-work : goal.settle-requires-clause-work
settle-requires-clause-work g c = (_, (rw c.in-None.is at (c.in_ok-proof.ensures _ c.requires.1)).0)

pub settle-requires-clause-unclosed : goal.settle-requires-clause-unclosed
settle-requires-clause-unclosed g c = (rw c.in-None.is at (c.in_ok-proof.ensures _ c.requires.1)).1

pub rise-requires : goal.rise-requires
rise-requires g c = (_, c.in_ok-settle-in-None.ensures.serving _ (rw c.in-None.is at (c.in_ok-proof.ensures _ c.requires.1)).0)

pub returns-in-Some-2 : goal.returns-in-Some-2
returns-in-Some-2 g c aim h = rw c.in-Some-2.is at (c.in_ok-whole-in-Some.ensures aim (rw c.in-Some.is at (c.in_ok-proof.ensures aim h)).0)

pub returns-in-None-2 : goal.returns-in-None-2
returns-in-None-2 g c aim h =
    let worked = rw c.in-Some.is at (c.in_ok-proof.ensures aim h) in
    let fits = rw c.in-None-2.is at (c.in_ok-whole-in-Some.ensures aim worked.0) in
    (fits.0, omega (arith, fits.1, worked.1))

pub returns-in-ByStep : goal.returns-in-ByStep
returns-in-ByStep g c aim h =
    let worked = rw c.in-None.is at (c.in_ok-proof.ensures aim h) in
    let settled = c.in_ok-settle-in-None.ensures in
    let fits = rw c.in-ByStep.is at (c.in_ok-rise-in-None.ensures aim (settled.serving aim worked.0)) in
    (fits.0, omega (arith, fits.1, settled.room aim worked.0, worked.2))

pub returns-in-Done : goal.returns-in-Done
returns-in-Done g c aim h =
    rw c.in-Done.is at (c.in_ok-rise-in-None.ensures aim (c.in_ok-settle-in-None.ensures.serving aim (rw c.in-None.is at (c.in_ok-proof.ensures aim h)).0))
