use Rattle.std.proofs.Common.{◌≡◌, ◌∙◌, sym, subst, IsTrue}
use Rattle.std.specs.Ordering.{nat_cmp}
use Rattle.std.specs.Cmp.Lexicographic.{slice_cmp}
use Rattle.std.specs.declared.cmp.Ordering.TheVariants.{Less}
use Rattle.lw_formula.specs.Name.{is_name}
use Rattle.lw_model.specs.Edits.{AddsFact}
use Rattle.lw_cert.proofs.WordReaders.{is-err-of, not-false}
use Rattle.lw_cert.proofs.RowReading.{named-none, named-more, names-refused, names-end}
use Rattle.lw_cert.proofs.row.read_names.Goals as goal

pub loop-word-init : goal.loop-word-init
loop-word-init c = named-none c.args.world c.args.bytes.now c.args.model.now

pub returns-in-Err-BadName : goal.returns-in-Err-BadName
returns-in-Err-BadName c =
    names-refused c.args.world c.args.bytes.now c.loop-word.rest.now c.loop-word.last.now c.in-Some.word.now c.in-Some.next.now c.args.model.now c.loop-word.model c.loop-word.invariant c.in-Some.ensures
    (λ name less. not-false _ (c.from_bytes.ensures.bad.0 (is-err-of _ _ _ c.in-Err-BadName.is c.in-Err-BadName.field-0-is)) name)

pub returns-then-not-is_before : goal.returns-then-not-is_before
returns-then-not-is_before c =
    let word = c.as_bytes.ensures.value ∙ c.in-Ok.ensures.ok in
    names-refused c.args.world c.args.bytes.now c.loop-word.rest.now c.loop-word.last.now c.in-Some.word.now c.in-Some.next.now c.args.model.now c.loop-word.model c.loop-word.invariant c.in-Some.ensures
    (λ name less. not-false c.is_before.result c.if-not-is_before.true (c.is_before.ensures.1 (subst (λ w. slice_cmp nat_cmp c.loop-word.last.now w ≡ Less) (sym word) less)))

pub loop-word-preserved : goal.loop-word-preserved
loop-word-preserved c =
    let word = c.as_bytes.ensures.value ∙ c.in-Ok.ensures.ok in
    named-more c.args.world c.args.bytes.now c.loop-word.rest.now c.loop-word.last.now c.in-Some.word.now c.in-Some.next.now c.args.model.now c.loop-word.model c.add_fact.new.self c.loop-word.invariant c.in-Some.ensures
    (subst (λ p. IsTrue (is_name p)) c.in-Ok.ensures.ok c.as_bytes.ensures.name)
    (subst (λ w. slice_cmp nat_cmp c.loop-word.last.now w ≡ Less) word (c.is_before.ensures.0 c.if-not-is_before.false))
    (subst (λ p. AddsFact c.loop-word.model c.args.world p c.add_fact.new.self) c.in-Ok.ensures.ok c.in_ok-add_fact.ensures.added)

pub returns : goal.returns
returns c = names-end c.is_empty.result c.args.world c.args.bytes.now c.loop-word.rest.now c.loop-word.last.now c.args.model.now c.loop-word.model c.is_empty.ensures c.loop-word.invariant c.in_default.ensures
