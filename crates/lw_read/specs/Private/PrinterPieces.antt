-- What the printer of a pool has still to write: pieces of a text, the next one last.
use Rattle.std.specs.Prelude.{◌≡◌, ℕ, ◌+◌, ◌*◌, ◌<◌, List, [], ◌∷◌, ◌++◌, All, sum_by, codes, ⊤}
use Rattle.lw_formula.specs.Formula.{Formula, nodes}
use Rattle.lw_pool.specs.declared.node.Node.{Node}
use Rattle.lw_pool.specs.declared.node.Node.TheVariants as node
use Rattle.lw_pool.specs.Region.{tree_at, IsLive}
use Rattle.lw_formula.specs.declared.joint.Joint.TheVariants.{And, Or, Imp, Iff}
use Rattle.lw_read.specs.declared.pool_printer.Piece.{Piece}
use Rattle.lw_read.specs.declared.pool_printer.Piece.TheVariants.{Operand, ModalOperand, Sign, Close}
use Rattle.lw_read.specs.Grammar.{rank}
use Rattle.lw_read.specs.Text.{text_of, sign_text, operand_text, modal_operand_text}

-- the text of a piece
abbrev pub piece_text : List Formula → Piece → List ℕ
piece_text ts (Operand a least) = operand_text least (tree_at ts a) (text_of (tree_at ts a))
piece_text ts (ModalOperand a) = modal_operand_text (tree_at ts a) (text_of (tree_at ts a))
piece_text ts (Sign sign) = sign_text sign
piece_text ts Close = codes ")"

-- the text of pieces, the last one first
abbrev pub pieces_text : List Formula → List Piece → List ℕ
pieces_text ts [] = []
pieces_text ts (p ∷ ps) = pieces_text ts ps ++ piece_text ts p

-- what the text of a node's formula begins with
abbrev pub node_head : Node → List ℕ
node_head (node.Var p) = p
node_head node.Bot = codes "false"
node_head node.Top = codes "true"
node_head (node.Not a) = codes "~"
node_head (node.Nec a) = codes "box"
node_head (node.Poss a) = codes "dia"
node_head (node.And a b) = []
node_head (node.Or a b) = []
node_head (node.Imp a b) = []
node_head (node.Iff a b) = []

-- the pieces behind it
abbrev pub node_tail : Node → List Piece
node_tail (node.Var p) = []
node_tail node.Bot = []
node_tail node.Top = []
node_tail (node.Not a) = Operand a 5 ∷ []
node_tail (node.Nec a) = ModalOperand a ∷ []
node_tail (node.Poss a) = ModalOperand a ∷ []
node_tail (node.And a b) = Operand b (rank And) ∷ Sign And ∷ Operand a (rank And + 1) ∷ []
node_tail (node.Or a b) = Operand b (rank Or) ∷ Sign Or ∷ Operand a (rank Or + 1) ∷ []
node_tail (node.Imp a b) = Operand b (rank Imp) ∷ Sign Imp ∷ Operand a (rank Imp + 1) ∷ []
node_tail (node.Iff a b) = Operand b (rank Iff) ∷ Sign Iff ∷ Operand a (rank Iff + 1) ∷ []

-- no fewer than the steps that the piece takes
abbrev pub piece_weight : List Formula → Piece → ℕ
piece_weight ts (Operand a least) = 4 * nodes (tree_at ts a)
piece_weight ts (ModalOperand a) = 4 * nodes (tree_at ts a)
piece_weight ts (Sign sign) = 1
piece_weight ts Close = 1

abbrev pub pieces_weight : List Formula → List Piece → ℕ
pieces_weight ts ps = sum_by (piece_weight ts) ps

-- the piece's formula is in the list
abbrev pub IsLivePiece : List Formula → Piece → Type 0
IsLivePiece ts (Operand a least) = IsLive ts a
IsLivePiece ts (ModalOperand a) = IsLive ts a
IsLivePiece ts (Sign sign) = ⊤
IsLivePiece ts Close = ⊤

-- the piece is written, as far as new pieces don't stand for it
pub record WritesPiece (ts : List Formula) (piece : Piece) (before after : List ℕ) (old new : List Piece) : Type 0 where
  pub text : after ++ pieces_text ts new ≡ before ++ (piece_text ts piece ++ pieces_text ts old)
  pub live : All (IsLivePiece ts) old → All (IsLivePiece ts) new
  pub lighter : pieces_weight ts new < pieces_weight ts old + piece_weight ts piece
