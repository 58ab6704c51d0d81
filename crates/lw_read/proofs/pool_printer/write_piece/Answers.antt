use Rattle.std.proofs.Common.{◌≡◌, [], refl, sym, ap, ◌∙◌, subst, arith}
use Rattle.std.proofs.lemmas.List.{append-nil}
use Rattle.lw_pool.specs.Region.{tree_at, IsLive}
use Rattle.lw_read.specs.Text.{text_of, tightness_of, tightness}
use Rattle.lw_formula.specs.Joint.{joint_of}
use Rattle.lw_read.specs.Private.PrinterPieces.{IsLivePiece}
use Rattle.lw_read.specs.declared.pool_printer.Piece.TheVariants.{Operand, ModalOperand}
use Rattle.lw_read.proofs.PrinterPieces.{writes-node, writes-bracketed, operand-bare, operand-bracketed, modal-bare, modal-bracketed}
use Rattle.lw_read.proofs.pool_printer.write_piece.Goals as goal

pub returns-in_ok-write_bracketed-in-Operand : goal.returns-in_ok-write_bracketed-in-Operand
returns-in_ok-write_bracketed-in-Operand c =
    let ts = c.args.pool.now in
    let id = c.in-Operand.id in
    let a = tree_at ts id in
    let live : IsLive ts id = subst (IsLivePiece ts) c.in-Operand.is c.requires in
    let tight : c.tightness.result ≡ tightness a = c.tightness.ensures ∙ ap tightness_of (c.joint.ensures ts ∙ ap joint_of c.node-node.ensures.tree) in
    let text = operand-bracketed c.in-Operand.least a (text_of a) (omega (arith, c.if-tightness-least.true)) in
    rw c.in-Operand.is
    (writes-bracketed ts id c.node-node.result.now (Operand id c.in-Operand.least) _ _ _ _ live c.node-node.ensures.tree c.node-node.ensures.below text refl
    c.in_ok-write_bracketed-in-Operand.ensures.text c.in_ok-write_bracketed-in-Operand.ensures.rest)

pub returns-in_ok-write_node-in-Operand : goal.returns-in_ok-write_node-in-Operand
returns-in_ok-write_node-in-Operand c =
    let ts = c.args.pool.now in
    let id = c.in-Operand.id in
    let a = tree_at ts id in
    let live : IsLive ts id = subst (IsLivePiece ts) c.in-Operand.is c.requires in
    let tight : c.tightness.result ≡ tightness a = c.tightness.ensures ∙ ap tightness_of (c.joint.ensures ts ∙ ap joint_of c.node-node.ensures.tree) in
    let text = operand-bare c.in-Operand.least a (text_of a) (omega (arith, c.if-tightness-least.false)) in
    rw c.in-Operand.is
    (writes-node ts id c.node-node.result.now (Operand id c.in-Operand.least) _ _ _ _ _ [] live c.node-node.ensures.tree c.node-node.ensures.below text refl
    (sym (append-nil c.args.out.now.items)) c.in_ok-write_node-in-Operand.ensures.text c.in_ok-write_node-in-Operand.ensures.rest)

pub returns-in_ok-write_bracketed-in-ModalOperand : goal.returns-in_ok-write_bracketed-in-ModalOperand
returns-in_ok-write_bracketed-in-ModalOperand c =
    let ts = c.args.pool.now in
    let id = c.in-ModalOperand.id in
    let a = tree_at ts id in
    let n = c.node-node-in-ModalOperand in
    let live : IsLive ts id = subst (IsLivePiece ts) c.in-ModalOperand.is c.requires in
    let tight : c.tightness-in-ModalOperand.result ≡ tightness a = c.tightness-in-ModalOperand.ensures ∙ ap tightness_of (c.joint-in-ModalOperand.ensures ts ∙ ap joint_of n.ensures.tree) in
    let text = modal-bracketed a (text_of a) (omega (arith, c.if-tightness-lt5.true)) in
    rw c.in-ModalOperand.is
    (writes-bracketed ts id n.result.now (ModalOperand id) _ _ _ _ live n.ensures.tree n.ensures.below text refl
    c.in_ok-write_bracketed-in-ModalOperand.ensures.text c.in_ok-write_bracketed-in-ModalOperand.ensures.rest)

pub returns-in_ok-write_node-in-ModalOperand : goal.returns-in_ok-write_node-in-ModalOperand
returns-in_ok-write_node-in-ModalOperand c =
    let ts = c.args.pool.now in
    let id = c.in-ModalOperand.id in
    let a = tree_at ts id in
    let n = c.node-node-in-ModalOperand in
    let live : IsLive ts id = subst (IsLivePiece ts) c.in-ModalOperand.is c.requires in
    let tight : c.tightness-in-ModalOperand.result ≡ tightness a = c.tightness-in-ModalOperand.ensures ∙ ap tightness_of (c.joint-in-ModalOperand.ensures ts ∙ ap joint_of n.ensures.tree) in
    let text = modal-bare a (text_of a) (omega (arith, c.if-tightness-lt5.false)) in
    rw c.in-ModalOperand.is
    (writes-node ts id n.result.now (ModalOperand id) _ _ _ _ _ _ live n.ensures.tree n.ensures.below text refl
    c.in_ok-push-in-ModalOperand.ensures.items c.in_ok-write_node-in-ModalOperand.ensures.text c.in_ok-write_node-in-ModalOperand.ensures.rest)
