use Rattle.std.proofs.Common.{◌≡◌, ◌+◌, ◌++◌, ◌∙◌, ◌∷◌, [], sym, ap, subst, arith, length}
use Rattle.lw_read.specs.Tokens.{AreInOrder, tokens_of}
use Rattle.lw_read.proofs.TokenSteps.{IsBehind, IsBehind-blank, IsBehind-piece, tokens_wrong, tokens_end, tokens-order, joined}
use Rattle.lw_read.proofs.lexer.tokens.Goals as goal
use Rattle.lw_read.proofs.lexer.tokens.Goals.{In-Blank, In-Piece, In-Wrong}

blank : (c : In-Blank) → IsBehind c.args.text.now c.loop-at.at c.in-Blank.len []
blank c = IsBehind-blank c.args.text.now c.loop-at.at c.in-Blank.len c.loop-at-test.true c.in-Blank.ensures

piece : (c : In-Piece) → IsBehind c.args.text.now c.loop-at.at c.in-Piece.len (record { kind = c.in-Piece.kind; start = c.loop-at.at; end = c.loop-at.at + c.in-Piece.len } ∷ [])
piece c = IsBehind-piece c.args.text.now c.loop-at.at c.in-Piece.len c.in-Piece.kind c.loop-at-test.true c.in-Piece.ensures

pub overflow_add-at : goal.overflow_add-at
overflow_add-at c = omega (arith, (blank (goal.at.overflow_add-at c).In-Blank).within)

pub loop-at-smaller-in-Blank : goal.loop-at-smaller-in-Blank
loop-at-smaller-in-Blank c =
    let b = blank (goal.at.loop-at-smaller-in-Blank c).In-Blank in
    omega (arith, b.grows, b.within)

pub loop-at-preserved-in-Blank : goal.loop-at-preserved-in-Blank
loop-at-preserved-in-Blank c =
    let b = blank (goal.at.loop-at-preserved-in-Blank c).In-Blank in
    (b.within, ap (λ ts. c.loop-at.tokens.items ++ ts) (sym b.tokens) ∙ c.loop-at.invariant.1)

pub overflow_add-token : goal.overflow_add-token
overflow_add-token c = omega (arith, (piece (goal.at.overflow_add-token c).In-Piece).within)

pub overflow_add-at-in-Piece : goal.overflow_add-at-in-Piece
overflow_add-at-in-Piece c = omega (arith, (piece (goal.at.overflow_add-at-in-Piece c).In-Piece).within)

pub loop-at-smaller : goal.loop-at-smaller
loop-at-smaller c =
    let b = piece (goal.at.loop-at-smaller c).In-Piece in
    omega (arith, b.grows, b.within)

pub loop-at-preserved : goal.loop-at-preserved
loop-at-preserved c =
    let b = piece (goal.at.loop-at-preserved c).In-Piece in
    (b.within, rw (c.in_ok-push-in-Piece.ensures.items) (joined _ _ _ _ _ c.loop-at.invariant.1 b.tokens))

pub returns-in-Wrong-clause-tokens : goal.returns-in-Wrong-clause-tokens
returns-in-Wrong-clause-tokens c =
    let wrong = tokens_wrong c.args.text.now c.loop-at.at c.loop-at-test.true c.in-Wrong.ensures in
    rw (c.in_ok-push-in-Wrong.ensures.items) (ap (λ ts. c.loop-at.tokens.items ++ ts) (sym wrong) ∙ c.loop-at.invariant.1)

pub returns-in-Wrong-clause-order : goal.returns-in-Wrong-clause-order
returns-in-Wrong-clause-order c =
    let wrong = tokens_wrong c.args.text.now c.loop-at.at c.loop-at-test.true c.in-Wrong.ensures in
    let is : c.push-in-Wrong.new.self.items ≡ tokens_of c.args.text.now = rw (c.in_ok-push-in-Wrong.ensures.items) (ap (λ ts. c.loop-at.tokens.items ++ ts) (sym wrong) ∙ c.loop-at.invariant.1) in
    subst (λ ts. AreInOrder 0 ts (length c.args.text.now)) (sym is) (tokens-order c.args.text.now)

pub returns-clause-tokens : goal.returns-clause-tokens
returns-clause-tokens c =
    let last = tokens_end c.args.text.now c.loop-at.at c.loop-at-test.false in
    rw (c.in_ok-push.ensures.items) (ap (λ ts. c.loop-at.tokens.items ++ ts) (sym last) ∙ c.loop-at.invariant.1)

pub returns-clause-order : goal.returns-clause-order
returns-clause-order c =
    let last = tokens_end c.args.text.now c.loop-at.at c.loop-at-test.false in
    let is : c.push-2.new.self.items ≡ tokens_of c.args.text.now = rw (c.in_ok-push.ensures.items) (ap (λ ts. c.loop-at.tokens.items ++ ts) (sym last) ∙ c.loop-at.invariant.1) in
    subst (λ ts. AreInOrder 0 ts (length c.args.text.now)) (sym is) (tokens-order c.args.text.now)
