-- The machine counts what the grammar counts, of expressions.
use Rattle.std.proofs.Common.{◌≡◌, ℕ, suc, ◌+◌, true, List, [], ◌∷◌, ◌++◌, map, cond, nat_eq, nat_lt, refl, ◌∙◌, ap, arith, add-zero}
use Rattle.std.proofs.lemmas.Bool.Decides.{nat_tests}
use Rattle.std.proofs.lemmas.List.Sums.{sum_by-cons}
use Rattle.lw_read.specs.Machine as machine
use Rattle.lw_read.proofs.StackedConstructs as stacked
use Rattle.lw_read.proofs.StackedConstructs.{Ends-more, reduce-stays, above, above-above, above-suc, above-append, above-prefix, above-infix, above-closed, above-brackets, above-next}
use Rattle.lw_ast.specs.declared.operator.Op.{Op}
use Rattle.lw_ast.specs.declared.function.Function.{Function}
use Rattle.lw_ast.specs.declared.operator.Series.{Series}
use Rattle.lw_ast.specs.Trees.{Expression, chained, list, call, Expressions, none, joined, put, count, Operands, no_more, chained_up, add, sign_count}
use Rattle.lw_ast.specs.ScriptLexemes.{ScriptLexeme, Between, Compare, Chained, CloseList}
use Rattle.lw_ast.specs.Functions.{arity}
use Rattle.lw_ast.specs.ScriptGrammar.{link_level, chain_level, Reads, atom, script_variable, signed_operand, denial, linking, comparison, chaining, bracketed, empty_list, listed, called, Terms, last, next, Items, last_item, next_item, Arguments, last_argument, next_argument, unfinished, unfinished_terms, unfinished_items, unfinished_arguments}
use Rattle.lw_ast.specs.Private.ScriptMachine.{Frame, Prefixed, Denied, Left, Compared, Linked, Bracket, Listed, Called, Setting, State, Need, Have, Astray, frame_level, weight, finish, script_constructs, sign_level, go_on, load, height, script_machine}
use Rattle.lw_ast.proofs.ExpressionsAccepted.{Ends, Ends-tightest, Holds, Holds-fits, where-fits, chain-first, chain-next, joined-put, count-put, chained-add, count-add, arguments-some}

abbrev pub heights : List ScriptLexeme → State → List ℕ
heights = machine.heights script_machine

swallow : (p : Setting) (f : Frame) (a : Expression) (fs : List Frame) (ts : List ScriptLexeme) → Ends (frame_level f) ts → heights ts (Have a (f ∷ fs) p) ≡ heights ts (Have (finish f a) fs p)
swallow p = stacked.swallow_heights script_machine script_constructs (λ a fs. Have a fs p) sign_level (go_on p) (λ t a fs. refl)

-- one construct more
push : (p : Setting) (f : Frame) (fs : List Frame) → load p (f ∷ fs) ≡ load p fs + weight f
push p f fs = let is = sum_by-cons weight f fs in omega arith

-- the last of some expressions, and what closes them
pub above-last : (h m w : ℕ) (xs rest : List ℕ) → w ≡ h + m → above w xs ++ (h ∷ rest) ≡ above h (above m xs ++ (0 ∷ [])) ++ rest
above-last h m w xs rest is =
    let shift = above-above h m w xs is in
    let none' : h + 0 ≡ h = omega arith in
    let parts = above-append h (above m xs) (0 ∷ []) rest in
    cc

-- the word of a call, its bracket, and what stands behind
above-call : (h w : ℕ) (xs behind rest : List ℕ) → w ≡ h + 1 → behind ≡ above h xs ++ rest → h ∷ w ∷ behind ≡ above h (0 ∷ 1 ∷ xs) ++ rest
above-call h w xs behind rest is also = let none' : h + 0 ≡ h = omega arith in cc

mutual
  pub counts-height : {n : ℕ} {ts rest : List ScriptLexeme} {a : Expression} (r : Reads n ts a rest) (fs : List Frame) (p : Setting) → Holds n fs → Ends n rest → heights ts (Need fs p) ≡ above (load p fs) (unfinished r) ++ heights rest (Have a fs p)
  counts-height atom fs p holds ends = rw add-zero refl
  counts-height script_variable fs p holds ends = rw add-zero refl
  counts-height {n} {rest = rest} (signed_operand {a = a} sign r) fs p holds ends =
      let tightest = Ends-tightest n rest ends in
      let inner = counts-height r (Prefixed sign ∷ fs) p (omega arith) tightest in
      let outer = swallow p (Prefixed sign) a fs rest tightest in
      let shift = above-prefix (load p fs) (load p (Prefixed sign ∷ fs)) (unfinished r) (heights rest (Have (finish (Prefixed sign) a) fs p)) (push p (Prefixed sign) fs) in
      cc
  counts-height {n} {rest = rest} (denial {ts = ts} {a = a} le r) fs p holds ends =
      let here = Ends-more sign_level n 3 rest le ends in
      let stays = ap (λ s. height s ∷ heights ts s) (where-fits 3 fs (Need (Denied ∷ fs) p) (omega arith)) in
      let inner = counts-height r (Denied ∷ fs) p (omega arith) here in
      let outer = swallow p Denied a fs rest here in
      let shift = above-prefix (load p fs) (load p (Denied ∷ fs)) (unfinished r) (heights rest (Have (finish Denied a) fs p)) (push p Denied fs) in
      cc
  counts-height {n} {rest = rest} (linking {mid = mid} {a = a} {b = b} o le r s) fs p holds ends =
      let here = Ends-more sign_level n (link_level o) rest le ends in
      let first = counts-height r fs p (omega arith) (omega arith) in
      let stays = ap (λ s. height s ∷ heights mid s) (reduce-stays script_constructs (go_on p (Between o)) (link_level o) a fs (Holds-fits (link_level o) fs (omega arith)) ∙ where-fits (link_level o) fs (Need (Left o a ∷ fs) p) (omega arith)) in
      let second = counts-height s (Left o a ∷ fs) p (omega arith) here in
      let outer = swallow p (Left o a) b fs rest here in
      let shift = above-infix (load p fs) (load p (Left o a ∷ fs)) (unfinished r) (unfinished s) (heights rest (Have (finish (Left o a) b) fs p)) (push p (Left o a) fs) in
      cc
  counts-height {n} {rest = rest} (comparison {mid = mid} {a = a} {b = b} sign le r s) fs p holds ends =
      let first = counts-height r fs p (omega arith) (omega arith) in
      let stays = ap (λ s. height s ∷ heights mid s) (reduce-stays script_constructs (go_on p (Compare sign)) 4 a fs (Holds-fits 4 fs (omega arith)) ∙ where-fits 4 fs (Need (Compared sign a ∷ fs) p) (omega arith)) in
      let second = counts-height s (Compared sign a ∷ fs) p (omega arith) (Ends-more sign_level n 5 rest (omega arith) ends) in
      let outer = swallow p (Compared sign a) b fs rest (Ends-more sign_level n 4 rest le ends) in
      let shift = above-infix (load p fs) (load p (Compared sign a ∷ fs)) (unfinished r) (unfinished s) (heights rest (Have (finish (Compared sign a) b) fs p)) (push p (Compared sign a) fs) in
      cc
  counts-height {n} {rest = rest} (chaining {mid = mid} {a = a} {bs = bs} k s le r terms) fs p holds ends =
      let first = counts-height r fs p (omega arith) (omega arith) in
      let stays = ap (λ s. height s ∷ heights mid s) (reduce-stays script_constructs (go_on p (Chained k s)) (chain_level k) a fs (Holds-fits (chain_level k) fs (omega arith)) ∙ chain-first p k s a fs (omega arith)) in
      let second = counts-terms terms fs p a no_more (omega arith) (Ends-more sign_level n (chain_level k) rest le ends) in
      let one = push p (Linked k a no_more s) fs in
      let parts = above-append (load p fs) (unfinished r) (1 ∷ unfinished_terms 1 terms) (heights rest (Have (chained k a bs) fs p)) in
      cc
  counts-height {n} {rest = rest} (bracketed {a = a} r) fs p holds ends =
      let inner = counts-height r (Bracket ∷ fs) p (omega arith) (omega arith) in
      let shift = above-brackets (load p fs) (load p (Bracket ∷ fs)) (unfinished r) (heights rest (Have a fs p)) (push p Bracket fs) in
      cc
  counts-height empty_list fs p holds ends =
      let one = push p (Listed none) fs in
      let none' : load p fs + 0 ≡ load p fs = omega arith in
      cc
  counts-height (listed items) fs p holds ends =
      let inner = counts-items items fs p none in
      let one = push p (Listed none) fs in
      cc
  counts-height (called f arguments) fs p holds ends =
      above-call (load p fs) (load p (Called f none ∷ fs)) (unfinished_arguments arguments) _ _ (push p (Called f none) fs) (counts-arguments arguments fs p f none (omega arith))

  counts-terms : {k : Series} {s : Op} {ts rest : List ScriptLexeme} {bs : Operands} (terms : Terms k s ts bs rest) (fs : List Frame) (p : Setting) (a : Expression) (cs : Operands) → Holds (chain_level k) fs → Ends (chain_level k) rest → heights ts (Need (Linked k a cs s ∷ fs) p) ≡ above (load p fs) (unfinished_terms (suc (sign_count cs)) terms) ++ heights rest (Have (chained k a (chained_up cs bs)) fs p)
  counts-terms {k} {s} {rest = rest} (last {b = b} r) fs p a cs holds ends =
      let inner = counts-height r (Linked k a cs s ∷ fs) p (omega arith) (Ends-more sign_level (chain_level k) (chain_level k + 1) rest (omega arith) ends) in
      let outer = swallow p (Linked k a cs s) b fs rest ends in
      let shift = above-above (load p fs) (suc (sign_count cs)) (load p (Linked k a cs s ∷ fs)) (unfinished r) (push p (Linked k a cs s) fs) in
      cc
  counts-terms {k} {s} {rest = rest} (next {mid = mid} {b = b} {bs = bs} t r terms) fs p a cs holds ends =
      let w = load p (Linked k a cs s ∷ fs) in
      let up : load p (Linked k a (add cs s b) t ∷ fs) ≡ load p fs + suc (suc (sign_count cs)) = let is = count-add cs s b in let q = push p (Linked k a (add cs s b) t) fs in omega arith in
      let one : suc (sign_count (add cs s b)) ≡ suc (suc (sign_count cs)) = let is = count-add cs s b in omega arith in
      above-next (load p fs) (suc (suc (sign_count cs))) w (unfinished r) (above (suc (sign_count cs)) (unfinished r)) (unfinished_terms (suc (suc (sign_count cs))) terms) _ _ _ _
      (above-above (load p fs) (suc (sign_count cs)) w (unfinished r) (push p (Linked k a cs s) fs))
      (counts-height r (Linked k a cs s ∷ fs) p (omega arith) (omega arith))
      (ap (λ s. height s ∷ heights mid s) (reduce-stays script_constructs (go_on p (Chained k t)) (chain_level k) b (Linked k a cs s ∷ fs) (omega arith) ∙ chain-next p k s t a b cs fs) ∙ ap (λ n. n ∷ heights mid (Need (Linked k a (add cs s b) t ∷ fs) p)) up)
      (counts-terms terms fs p a (add cs s b) holds ends
      ∙ ap (λ n. above (load p fs) (unfinished_terms n terms) ++ heights rest (Have (chained k a (chained_up (add cs s b) bs)) fs p)) one
      ∙ ap (λ ds. above (load p fs) (unfinished_terms (suc (suc (sign_count cs))) terms) ++ heights rest (Have (chained k a ds) fs p)) (chained-add cs s b bs))

  counts-items : {ts rest : List ScriptLexeme} {bs : Expressions} (items : Items CloseList ts bs rest) (fs : List Frame) (p : Setting) (es : Expressions) → heights ts (Need (Listed es ∷ fs) p) ≡ above (load p fs) (unfinished_items 1 items) ++ heights rest (Have (list (joined es bs)) fs p)
  counts-items {rest = rest} (last_item {b = b} r) fs p es =
      counts-height r (Listed es ∷ fs) p (omega arith) (omega arith)
      ∙ above-last (load p fs) 1 (load p (Listed es ∷ fs)) (unfinished r) (heights rest (Have (list (put es b)) fs p)) (push p (Listed es) fs)
  counts-items {rest = rest} (next_item {mid = mid} {b = b} {bs = bs} r items) fs p es =
      above-next (load p fs) 1 (load p (Listed es ∷ fs)) (unfinished r) (above 1 (unfinished r)) (unfinished_items 1 items) _ _ _ _
      (above-above (load p fs) 1 (load p (Listed es ∷ fs)) (unfinished r) (push p (Listed es) fs))
      (counts-height r (Listed es ∷ fs) p (omega arith) (omega arith))
      (ap (λ n. n ∷ heights mid (Need (Listed (put es b) ∷ fs) p)) (push p (Listed (put es b)) fs))
      (counts-items items fs p (put es b) ∙ ap (λ ds. above (load p fs) (unfinished_items 1 items) ++ heights rest (Have (list ds) fs p)) (joined-put es b bs))

  counts-arguments : {m : ℕ} {ts rest : List ScriptLexeme} {bs : Expressions} (arguments : Arguments m ts bs rest) (fs : List Frame) (p : Setting) (f : Function) (es : Expressions) → count es + m ≡ arity f → heights ts (Need (Called f es ∷ fs) p) ≡ above (load p fs) (unfinished_arguments arguments) ++ heights rest (Have (call f (joined es bs)) fs p)
  counts-arguments {rest = rest} (last_argument {b = b} one r) fs p f es is =
      let all : nat_eq (count es + 1) (arity f) ≡ true = grind (arith, nat_tests) in
      counts-height r (Called f es ∷ fs) p (omega arith) (omega arith)
      ∙ ap (λ t. above (load p (Called f es ∷ fs)) (unfinished r) ++ (let s = cond t (Have (call f (put es b)) fs p) Astray in height s ∷ heights rest s)) all
      ∙ above-closed (load p fs) (load p (Called f es ∷ fs)) (unfinished r) (heights rest (Have (call f (put es b)) fs p)) (push p (Called f es) fs)
  counts-arguments {rest = rest} (next_argument {mid = mid} {b = b} {bs = bs} two r arguments) fs p f es is =
      let left = arguments-some arguments in
      let some : nat_lt (count es + 1) (arity f) ≡ true = grind (arith, nat_tests) in
      let one = count-put es b in
      above-next (load p fs) 1 (load p (Called f es ∷ fs)) (unfinished r) (map suc (unfinished r)) (unfinished_arguments arguments) _ _ _ _
      (above-suc (load p fs) (load p (Called f es ∷ fs)) (unfinished r) (push p (Called f es) fs))
      (counts-height r (Called f es ∷ fs) p (omega arith) (omega arith))
      (ap (λ t. let s = cond t (Need (Called f (put es b) ∷ fs) p) Astray in height s ∷ heights mid s) some ∙ ap (λ n. n ∷ heights mid (Need (Called f (put es b) ∷ fs) p)) (push p (Called f (put es b)) fs))
      (counts-arguments arguments fs p f (put es b) (omega arith) ∙ ap (λ ds. above (load p fs) (unfinished_arguments arguments) ++ heights rest (Have (call f ds) fs p)) (joined-put es b bs))
