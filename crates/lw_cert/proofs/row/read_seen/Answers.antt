use Rattle.std.proofs.Common.{◌<◌, ◌≤◌, ◌^◌, sym, ◌∙◌, arith}
use Rattle.lw_cert.proofs.WordReaders.{same-bytes, not-same, match-none, match-some}
use Rattle.lw_cert.proofs.RowReading.{passed-none, passed-more, seen-true, seen-over, seen-no-number, seen-out}
use Rattle.lw_cert.proofs.row.read_seen.Goals as goal
use Rattle.lw_cert.proofs.row.read_seen.Goals.{then-seen-least-via-then-seen-least, then-seen-least-via-else-seen-least+then-seen-worlds}

pub loop-word-init : goal.loop-word-init
loop-word-init c = passed-none c.args.world c.args.bytes.now c.args.model.now

pub returns-then-eq : goal.returns-then-eq
returns-then-eq c =
    let small : c.args.model.now.worlds < 2 ^ 64 = omega (arith, c.worlds-worlds.ensures.worlds) in
    seen-true c.args.world c.loop-word.least c.args.bytes.now c.loop-word.rest.now c.in-Some.word.now c.in-Some.next.now c.args.model.now c.loop-word.model small c.loop-word.invariant c.in-Some.ensures
    (same-bytes _ _ c.if-eq.ensures ∙ c.as_slice.ensures)

pub returns-in_default-2 : goal.returns-in_default-2
returns-in_default-2 c =
    let small : c.args.model.now.worlds < 2 ^ 64 = omega (arith, c.worlds-worlds.ensures.worlds) in
    seen-no-number c.args.world c.loop-word.least c.args.bytes.now c.loop-word.rest.now c.in-Some.word.now c.in-Some.next.now c.args.model.now c.loop-word.model small c.loop-word.invariant c.in-Some.ensures
    (λ e. not-same _ _ c.if-eq.ensures (e ∙ sym c.as_slice.ensures))
    (match-none _ _ _ c.in_ok-seen.ensures c.in_default-2.is)

pub returns-then-seen-least : goal.returns-then-seen-least
returns-then-seen-least c =
    let small : c.args.model.now.worlds < 2 ^ 64 = omega (arith, c.worlds-worlds.ensures.worlds) in
    let low : c.in-Some-2.seen < 2 ^ 64 = omega arith in
    seen-out c.args.world c.in-Some-2.seen c.loop-word.least c.args.bytes.now c.loop-word.rest.now c.in-Some.word.now c.in-Some.next.now c.args.model.now c.loop-word.model small low c.loop-word.invariant c.in-Some.ensures
    (λ e. not-same _ _ c.if-eq.ensures (e ∙ sym c.as_slice.ensures))
    (match-some _ _ _ _ c.in_ok-seen.ensures c.in-Some-2.is)
    (elim c.then-seen-least.branch [
      | then-seen-least-via-then-seen-least w ↦ λ a b. absurd (omega (arith, a, b, w.if-seen-least.true))
      | then-seen-least-via-else-seen-least+then-seen-worlds w ↦ λ a b. absurd (omega (arith, a, b, w.if-seen-worlds.true, c.worlds-worlds.ensures.worlds))
    ])

pub loop-word-preserved : goal.loop-word-preserved
loop-word-preserved c =
    let small : c.args.model.now.worlds < 2 ^ 64 = omega (arith, c.worlds-worlds.ensures.worlds) in
    let high : c.loop-word.least ≤ c.in-Some-2.seen = omega arith in
    let low : c.in-Some-2.seen < c.args.model.now.worlds = omega (arith, c.worlds-worlds.ensures.worlds) in
    passed-more c.args.world c.in-Some-2.seen c.loop-word.least c.args.bytes.now c.loop-word.rest.now c.in-Some.word.now c.in-Some.next.now c.args.model.now c.loop-word.model c.add_pair.new.self small c.loop-word.invariant c.in-Some.ensures
    (match-some _ _ _ _ c.in_ok-seen.ensures c.in-Some-2.is)
    (λ e. not-same _ _ c.if-eq.ensures (e ∙ sym c.as_slice.ensures)) high low c.in_ok-add_pair.ensures.added

pub returns : goal.returns
returns c = seen-over c.args.world c.loop-word.least c.args.bytes.now c.loop-word.rest.now c.args.model.now c.loop-word.model c.loop-word.invariant c.in_default.ensures
