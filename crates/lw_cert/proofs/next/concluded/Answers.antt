use Rattle.std.proofs.Common.{◌∙◌, ◌∷◌, [], sym, ap, refl, reverse, vec_len}
use Rattle.std.proofs.lemmas.List.{reverse-append}
use Rattle.lw_cert.proofs.LastLines.{none-popped}
use Rattle.lw_cert.proofs.next.concluded.Goals as goal

pub returns-in-Some : goal.returns-in-Some
returns-in-Some c = (
  c.in-Some.proof,
  reverse c.pop.new.self.items,
  sym c.in_ok-proofs.ensures ∙ ap reverse c.in-Some.ensures.items ∙ reverse-append c.pop.new.self.items (c.in-Some.proof ∷ []),
  refl,
)

pub returns : goal.returns
returns c =
    sym c.in_ok-proofs.ensures
    ∙ ap reverse (none-popped (vec_len c.in_ok-proofs.proofs) c.in_ok-proofs.proofs.items c.pop.new.self.items c.in-None.ensures.items c.in-None.ensures.rest c.in-None.ensures.cases.0)
