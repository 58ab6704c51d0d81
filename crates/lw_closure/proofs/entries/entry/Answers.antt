use Rattle.lw_closure.proofs.OperandItems.{parts_there}
use Rattle.lw_closure.proofs.entries.entry.Goals as goal

pub numbered-parts-requires-clause-there : goal.numbered-parts-requires-clause-there
numbered-parts-requires-clause-there c =
    parts_there c.args.pool.now c.args.forms.now.keys c.requires.numbering c.requires.exact c.args.item c.item_at-id.result c.parts.result c.requires.there
    c.item_at-id.ensures c.parts.ensures.parts c.parts.ensures.live
