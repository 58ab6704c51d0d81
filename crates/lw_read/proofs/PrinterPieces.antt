-- The pieces that the printer of a pool writes one by one.
use Rattle.std.proofs.Common.{◌≡◌, ℕ, ◌+◌, ◌*◌, ◌<◌, ◌≤◌, true, false, List, [], ◌∷◌, ◌++◌, length, All, cond, nat_lt, codes, sym, refl, ◌∙◌, ap, subst, arith}
use Rattle.std.proofs.lemmas.List.{append_assoc, append-nil}
use Rattle.std.proofs.lemmas.List.Sums.{sum_by-append}
use Rattle.std.proofs.lemmas.List.Elements.{All-cons, All-nil, All-append}
use Rattle.std.proofs.lemmas.Bool.Decides.{nat_tests}
use Rattle.lw_formula.specs.Formula.{Formula, nodes}
use Rattle.lw_pool.specs.declared.id.FormId.{FormId}
use Rattle.lw_pool.specs.declared.node.Node.{Node}
use Rattle.lw_pool.specs.declared.node.Node.TheVariants as node
use Rattle.lw_pool.specs.Region.{tree_at, tree_of_node, IsLive, AreChildrenBelow}
use Rattle.lw_read.specs.declared.pool_printer.Piece.{Piece}
use Rattle.lw_read.specs.declared.pool_printer.Piece.TheVariants.{Close}
use Rattle.lw_read.specs.Text.{text_of, tightness, operand_text, modal_operand_text}
use Rattle.lw_read.specs.Private.PrinterPieces.{piece_text, pieces_text, node_head, node_tail, piece_weight, pieces_weight, IsLivePiece, WritesPiece}

pub pieces_text-append : (ts : List Formula) (xs ys : List Piece) → pieces_text ts (xs ++ ys) ≡ pieces_text ts ys ++ pieces_text ts xs
pieces_text-append ts [] ys = sym (append-nil (pieces_text ts ys))
pieces_text-append ts (x ∷ xs) ys = ap (λ text. text ++ piece_text ts x) (pieces_text-append ts xs ys) ∙ append_assoc (pieces_text ts ys) (pieces_text ts xs) (piece_text ts x)

node-text : (ts : List Formula) (n : Node) → node_head n ++ pieces_text ts (node_tail n) ≡ text_of (tree_of_node ts n)
node-text ts (node.Var p) = append-nil p
node-text ts node.Bot = refl
node-text ts node.Top = refl
node-text ts (node.Not a) = refl
node-text ts (node.Nec a) = refl
node-text ts (node.Poss a) = refl
node-text ts (node.And a b) = refl
node-text ts (node.Or a b) = refl
node-text ts (node.Imp a b) = refl
node-text ts (node.Iff a b) = refl

node-weight : (ts : List Formula) (n : Node) → pieces_weight ts (node_tail n) + 1 < 4 * nodes (tree_of_node ts n)
node-weight ts (node.Var p) = omega arith
node-weight ts node.Bot = omega arith
node-weight ts node.Top = omega arith
node-weight ts (node.Not a) = omega arith
node-weight ts (node.Nec a) = omega arith
node-weight ts (node.Poss a) = omega arith
node-weight ts (node.And a b) = omega arith
node-weight ts (node.Or a b) = omega arith
node-weight ts (node.Imp a b) = omega arith
node-weight ts (node.Iff a b) = omega arith

one-live : (ts : List Formula) (p : Piece) → IsLivePiece ts p → All (IsLivePiece ts) (p ∷ [])
one-live ts p live = All-cons (IsLivePiece ts) p [] live (All-nil (IsLivePiece ts))

two-live : (ts : List Formula) (p q r : Piece) → IsLivePiece ts p → IsLivePiece ts q → IsLivePiece ts r → All (IsLivePiece ts) (p ∷ q ∷ r ∷ [])
two-live ts p q r a b c = All-cons (IsLivePiece ts) p (q ∷ r ∷ []) a (All-cons (IsLivePiece ts) q (r ∷ []) b (one-live ts r c))

node-live : (ts : List Formula) (i : ℕ) (n : Node) → i < length ts → AreChildrenBelow i n → All (IsLivePiece ts) (node_tail n)
node-live ts i (node.Var p) h below = All-nil (IsLivePiece ts)
node-live ts i node.Bot h below = All-nil (IsLivePiece ts)
node-live ts i node.Top h below = All-nil (IsLivePiece ts)
node-live ts i (node.Not a) h below = one-live ts _ (omega arith)
node-live ts i (node.Nec a) h below = one-live ts _ (omega arith)
node-live ts i (node.Poss a) h below = one-live ts _ (omega arith)
node-live ts i (node.And a b) h below = two-live ts _ _ _ (omega (arith, below.1)) tt (omega (arith, below.0))
node-live ts i (node.Or a b) h below = two-live ts _ _ _ (omega (arith, below.1)) tt (omega (arith, below.0))
node-live ts i (node.Imp a b) h below = two-live ts _ _ _ (omega (arith, below.1)) tt (omega (arith, below.0))
node-live ts i (node.Iff a b) h below = two-live ts _ _ _ (omega (arith, below.1)) tt (omega (arith, below.0))

-- a piece is written by its first bytes, with pieces for the rest
writes : (ts : List Formula) (piece : Piece) (before after : List ℕ) (old new : List Piece) (lead : List ℕ) (rest : List Piece) → after ≡ before ++ lead → new ≡ old ++ rest → lead ++ pieces_text ts rest ≡ piece_text ts piece → All (IsLivePiece ts) rest → pieces_weight ts rest < piece_weight ts piece → WritesPiece ts piece before after old new
writes ts piece before after old new lead rest out stack text live light = record {
  text = rw (out, stack, pieces_text-append ts old rest) (append_assoc before lead (pieces_text ts rest ++ pieces_text ts old) ∙ ap (λ bytes. before ++ bytes) (sym (append_assoc lead (pieces_text ts rest) (pieces_text ts old)) ∙ ap (λ bytes. bytes ++ pieces_text ts old) text));
  live = λ olds. subst (All (IsLivePiece ts)) (sym stack) (All-append (IsLivePiece ts) old rest olds live);
  lighter = rw (stack, sum_by-append (piece_weight ts) old rest) (omega arith);
}

-- the formula of a node, written without brackets
pub writes-node : (ts : List Formula) (a : FormId) (n : Node) (piece : Piece) (before mid after : List ℕ) (old new : List Piece) (lead : List ℕ) → IsLive ts a → tree_of_node ts n ≡ tree_at ts a → AreChildrenBelow a.0 n → piece_text ts piece ≡ lead ++ text_of (tree_at ts a) → piece_weight ts piece ≡ 4 * nodes (tree_at ts a) → mid ≡ before ++ lead → after ≡ mid ++ node_head n → new ≡ old ++ node_tail n → WritesPiece ts piece before after old new
writes-node ts a n piece before mid after old new lead live tree below text weight first out stack =
    let light = node-weight ts n in
    let same : nodes (tree_of_node ts n) ≡ nodes (tree_at ts a) = ap nodes tree in
    writes ts piece before after old new (lead ++ node_head n) (node_tail n)
    (out ∙ ap (λ bytes. bytes ++ node_head n) first ∙ append_assoc before lead (node_head n)) stack
    (append_assoc lead (node_head n) (pieces_text ts (node_tail n)) ∙ ap (λ bytes. lead ++ bytes) (node-text ts n ∙ ap text_of tree) ∙ sym text)
    (node-live ts a.0 n live below)
    (omega arith)

-- the same in brackets
pub writes-bracketed : (ts : List Formula) (a : FormId) (n : Node) (piece : Piece) (before after : List ℕ) (old new : List Piece) → IsLive ts a → tree_of_node ts n ≡ tree_at ts a → AreChildrenBelow a.0 n → piece_text ts piece ≡ codes "(" ++ text_of (tree_at ts a) ++ codes ")" → piece_weight ts piece ≡ 4 * nodes (tree_at ts a) → after ≡ before ++ (codes "(" ++ node_head n) → new ≡ old ++ (Close ∷ node_tail n) → WritesPiece ts piece before after old new
writes-bracketed ts a n piece before after old new live tree below text weight out stack =
    let light = node-weight ts n in
    let closing : pieces_weight ts (Close ∷ node_tail n) ≡ 1 + pieces_weight ts (node_tail n) = sum_by-append (piece_weight ts) (Close ∷ []) (node_tail n) in
    let same : nodes (tree_of_node ts n) ≡ nodes (tree_at ts a) = ap nodes tree in
    writes ts piece before after old new (codes "(" ++ node_head n) (Close ∷ node_tail n)
    out stack
    (ap (λ bytes. 40 ∷ bytes) (sym (append_assoc (node_head n) (pieces_text ts (node_tail n)) (codes ")")) ∙ ap (λ bytes. bytes ++ codes ")") (node-text ts n ∙ ap text_of tree)) ∙ sym text)
    (All-cons (IsLivePiece ts) Close (node_tail n) tt (node-live ts a.0 n live below))
    (omega arith)

-- which of the two texts an operand has
pub operand-bare : (least : ℕ) (a : Formula) (text : List ℕ) → least ≤ tightness a → operand_text least a text ≡ text
operand-bare least a text h = let is : nat_lt (tightness a) least ≡ false = grind (arith, nat_tests) in ap (λ b. cond b (codes "(" ++ text ++ codes ")") text) is

pub operand-bracketed : (least : ℕ) (a : Formula) (text : List ℕ) → tightness a < least → operand_text least a text ≡ codes "(" ++ text ++ codes ")"
operand-bracketed least a text h = let is : nat_lt (tightness a) least ≡ true = grind (arith, nat_tests) in ap (λ b. cond b (codes "(" ++ text ++ codes ")") text) is

pub modal-bare : (a : Formula) (text : List ℕ) → 5 ≤ tightness a → modal_operand_text a text ≡ codes " " ++ text
modal-bare a text h = let is : nat_lt (tightness a) 5 ≡ false = grind (arith, nat_tests) in ap (λ b. cond b (codes "(" ++ text ++ codes ")") (codes " " ++ text)) is

pub modal-bracketed : (a : Formula) (text : List ℕ) → tightness a < 5 → modal_operand_text a text ≡ codes "(" ++ text ++ codes ")"
modal-bracketed a text h = let is : nat_lt (tightness a) 5 ≡ true = grind (arith, nat_tests) in ap (λ b. cond b (codes "(" ++ text ++ codes ")") (codes " " ++ text)) is

-- what is written and what stands for the rest stay the whole text
pub pieces-kept : (ts : List Formula) (piece : Piece) (before after whole : List ℕ) (stack rest new : List Piece) → stack ≡ rest ++ piece ∷ [] → before ++ pieces_text ts stack ≡ whole → WritesPiece ts piece before after rest new → after ++ pieces_text ts new ≡ whole
pieces-kept ts piece before after whole stack rest new is so w =
    w.text ∙ ap (λ text. before ++ text) (sym (pieces_text-append ts rest (piece ∷ []))) ∙ ap (λ ps. before ++ pieces_text ts ps) (sym is) ∙ so
