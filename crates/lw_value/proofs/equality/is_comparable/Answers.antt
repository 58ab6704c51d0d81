use Rattle.std.proofs.Common.{sym, ◌∙◌}
use Rattle.lw_value.proofs.ValuesWaiting.{load-falls}
use Rattle.lw_value.proofs.CertificatesWaiting.{one-waits, none-kept}
use Rattle.lw_value.proofs.equality.is_comparable.Goals as goal

pub returns-then-is_certificate : goal.returns-then-is_certificate
returns-then-is_certificate c = (
  (λ f. absurd cc),
  (λ none. absurd (one-waits c.loop-value.left.items c.pop.new.self.items c.in-Some.value c.in-Some.ensures.items (sym c.is_certificate.ensures ∙ c.if-is_certificate.true) (c.loop-value.invariant.1 none))),
)

pub loop-value-smaller : goal.loop-value-smaller
loop-value-smaller c = load-falls c.loop-value.left.items c.pop.new.self.items c.in-Some.value c.in-Some.ensures.items c.push_items.new.left.items c.in_ok-push_items.ensures

pub loop-value-preserved : goal.loop-value-preserved
loop-value-preserved c =
    let kept = none-kept c.loop-value.left.items c.pop.new.self.items c.in-Some.value c.in-Some.ensures.items c.push_items.new.left.items c.in_ok-push_items.ensures (sym c.is_certificate.ensures ∙ c.if-is_certificate.false) in
    ((λ h. c.loop-value.invariant.0 (kept.0 h)), (λ h. kept.1 (c.loop-value.invariant.1 h)))
