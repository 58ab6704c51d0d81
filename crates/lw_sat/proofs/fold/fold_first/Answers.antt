use Rattle.std.proofs.Common.{sym, subst, refl, ◌∙◌}
use Rattle.lw_sat.specs.Sets.{adding, sets, top, AreBelow}
use Rattle.lw_sat.specs.Moves.{listed}
use Rattle.lw_sat.proofs.BoardSpots.{keep_then_back, kept_of, lower_of, back_restored, label_more, pushed_some}
use Rattle.lw_sat.proofs.fold.fold_first.Goals as goal

pub go_back-requires : goal.go_back-requires
go_back-requires c = pushed_some _ c.requires.below.0 c.requires.below.1 (lower_of _ _ _ c.in_ok-keep.ensures ∙ c.requires.below.2)

pub restore-requires : goal.restore-requires
restore-requires c =
    pushed_some _ _ _ (kept_of _ _ _ (keep_then_back _ _ _ c.requires.below.0 c.requires.below.1 c.in_ok-keep.ensures c.requires.below.2 c.go_back.ensures))

pub add_side-requires : goal.add_side-requires
add_side-requires c =
    subst (λ n. AreBelow n (listed c.args.second)) (sym (keep_then_back _ _ _ c.requires.below.0 c.requires.below.1 c.in_ok-keep.ensures c.requires.below.2 c.go_back.ensures).bits)
    c.requires.second_inside

pub returns-then-not-needed : goal.returns-then-not-needed
returns-then-not-needed c Bs X e =
    let back = keep_then_back _ _ _ Bs X c.in_ok-keep.ensures e c.go_back.ensures in (
      refl,
      sym c.has_any-needed.ensures ∙ c.if-not-needed.true,
      back_restored _ _ _ Bs (sets c.args.board.now.used) X (top c.args.board.now.labels) back (c.restore.ensures _ _ (kept_of _ _ _ back)),
    )

pub returns : goal.returns
returns c Bs X e =
    let back = keep_then_back _ _ _ Bs X c.in_ok-keep.ensures e c.go_back.ensures in
    (refl, label_more _ _ _ _ (adding (listed c.args.second)) back c.add_side.ensures)
