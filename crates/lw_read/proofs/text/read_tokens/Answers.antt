use Rattle.std.proofs.Common.{◌≡◌, arith, ◌<◌, ◌≤◌, ◌+◌, ℕ, List, length, get_or, sym, subst}
use Rattle.std.proofs.lemmas.Result.{err_from_is_err_and}
use Rattle.lw_read.specs.declared.lexer.Token.{Token}
use Rattle.lw_read.specs.declared.lexer.TokenKind.TheVariants.{Word}
use Rattle.lw_read.specs.Tokens.{tokens_of}
use Rattle.lw_read.specs.Language.{IsFaultIn}
use Rattle.lw_read.specs.Places.{nesting_limit}
use Rattle.lw_read.specs.Machine.{IsTaken, Refuses}
use Rattle.lw_read.proofs.TokenByToken.{Reached, Reached-none, Reached-more, tells, whole, ends-over, token-fits, token-next}
use Rattle.lw_read.proofs.text.read_tokens.Goals as goal

-- the token that the loop reads past the last one
none : Token
none = record { kind = Word; start = 0; end = 0 }

fits : (text : List ℕ) (tokens : List Token) (i : ℕ) → tokens ≡ tokens_of text → i < length tokens → ((get_or tokens i none).start ≤ (get_or tokens i none).end) × ((get_or tokens i none).end ≤ length text)
fits text tokens i is h = subst (λ (ts : List Token). ((get_or ts i none).start ≤ (get_or ts i none).end) × ((get_or ts i none).end ≤ length text)) (sym is) (token-fits text i none (subst (λ (ts : List Token). i < length ts) is h))

pub taken-requires-clause-start : goal.taken-requires-clause-start
unfolding none
taken-requires-clause-start g c = (fits c.args.text.now c.args.tokens.now c.loop-token.token-index c.requires.tokens c.loop-token-test.true).0

pub taken-requires-clause-within : goal.taken-requires-clause-within
unfolding none
taken-requires-clause-within g c = (fits c.args.text.now c.args.tokens.now c.loop-token.token-index c.requires.tokens c.loop-token-test.true).1

pub taken-requires-clause-low : goal.taken-requires-clause-low
taken-requires-clause-low g c = c.loop-token.invariant.reached.low

pub loop-token-init : goal.loop-token-init
loop-token-init g c = record {
  reached = subst (Reached g.R.TextReader.language g.R.TextReader.machine c.args.text.now 0) (sym c.requires.start)
      (Reached-none g.R.TextReader.language g.R.TextReader.machine c.requires.reads c.args.text.now);
  known = (0, (λ d h. omega arith), c.requires.known);
}

pub taken-requires-clause-known : goal.taken-requires-clause-known
unfolding none
taken-requires-clause-known g c =
    let i = c.loop-token.token-index in
    let k = c.loop-token.invariant.known in
    let h = subst (λ (ts : List Token). i < length ts) c.requires.tokens c.loop-token-test.true in
    (k.0, subst (λ (ts : List Token). k.0 ≤ (get_or ts i none).start) (sym c.requires.tokens) (k.1 none h), k.2)

pub loop-token-preserved : goal.loop-token-preserved
unfolding none
loop-token-preserved g c =
    let L = g.R.TextReader.language in
    let M = g.R.TextReader.machine in
    let text = c.args.text.now in
    let i = c.loop-token.token-index in
    let s = g.R.TextReader.state c.loop-token.reader in
    let new = g.R.TextReader.state c.in_ok-reader.reader in
    let P : List Token → Type 0 = λ ts. let t = L.lexeme_of text (get_or ts i none) in (new ≡ M.step t s) × IsTaken L M t (M.step t s) × (M.height (M.step t s) ≤ nesting_limit) in
    let ok = subst P c.requires.tokens c.in_ok-reader.ensures.ok in
    let h = subst (λ (ts : List Token). i < length ts) c.requires.tokens c.loop-token-test.true in
    let K : List Token → Type 0 = λ ts. g.R.TextReader.knows c.in_ok-reader.reader text (get_or ts i none).end in
    record {
      reached = subst (Reached L M text (i + 1)) (sym ok.0) (Reached-more L M c.requires.reads text i s none h c.loop-token.invariant.reached ok.1 ok.2);
      known = ((get_or (tokens_of text) i none).end, (λ d more. token-next text i none d more), subst K c.requires.tokens c.in_ok-reader.ensures.known);
    }

pub returns-in_err-reader-clause-fault : goal.returns-in_err-reader-clause-fault
unfolding none
returns-in_err-reader-clause-fault g c =
    let k = err_from_is_err_and c.from_residual.result c.from_residual.ensures.1 in
    let L = g.R.TextReader.language in
    let M = g.R.TextReader.machine in
    let text = c.args.text.now in
    let i = c.loop-token.token-index in
    let s = g.R.TextReader.state c.loop-token.reader in
    let e = c.in_err-reader.field-0.0 in
    let P : List Token → Type 0 = λ ts. let t = L.lexeme_of text (get_or ts i none) in Refuses L M t (M.step t s) (get_or ts i none) e in
    let refused = subst P c.requires.tokens c.in_err-reader.ensures.fault in
    let h = subst (λ (ts : List Token). i < length ts) c.requires.tokens c.loop-token-test.true in
    let told = tells L M c.requires.reads text i s none h c.loop-token.invariant.reached e refused in
    rw k.1 (subst (IsFaultIn L text) (sym k.2) told)

pub unreachable-requires : goal.unreachable-requires
unreachable-requires g c =
    let low = subst (λ (ts : List Token). length ts ≤ c.loop-token.token-index) c.requires.tokens c.loop-token-test.false in
    let high = subst (λ (ts : List Token). c.loop-token.token-index ≤ length ts) c.requires.tokens c.loop-token.auto.token-index-end in
    let over = ends-over g.R.TextReader.language g.R.TextReader.machine c.requires.reads c.args.text.now c.loop-token.token-index (g.R.TextReader.state c.loop-token.reader) low high c.loop-token.invariant.reached in
    c.in-None.ensures.none over.0 over.1

pub returns-clause-tree : goal.returns-clause-tree
returns-clause-tree g c =
    let low = subst (λ (ts : List Token). length ts ≤ c.loop-token.token-index) c.requires.tokens c.loop-token-test.false in
    let high = subst (λ (ts : List Token). c.loop-token.token-index ≤ length ts) c.requires.tokens c.loop-token.auto.token-index-end in
    whole g.R.TextReader.language g.R.TextReader.machine c.requires.reads c.args.text.now c.loop-token.token-index (g.R.TextReader.state c.loop-token.reader) (g.R.TextReader.parsed c.in-Some.tree) low high c.loop-token.invariant.reached c.in-Some.ensures.over
