-- The machine counts what the grammar counts.
use Rattle.std.proofs.Common.{◌≡◌, ℕ, suc, ◌+◌, ◌<◌, List, [], ◌∷◌, ◌++◌, map, length, refl, sym, ◌∙◌, ap, arith}
use Rattle.lw_read.proofs.StackedConstructs.{above, above-zero, above-append, above-closed, above-next, above-above}
use Rattle.lw_ast.specs.Trees.{Expression, Expressions, none, joined, put, print, Statement, at, Statements, over, followed, behind}
use Rattle.lw_ast.specs.ScriptLexemes.{ScriptLexeme, Semicolon, Then, To, Do}
use Rattle.lw_ast.specs.ScriptGrammar.{Reads, Items, last_item, next_item, States, assignment, printing, choice, choice_of_two, counting, each_item, repetition, Follow, no_statement, statement, IsScript, unfinished, unfinished_items, unfinished_statement, unfinished_block}
use Rattle.lw_ast.specs.Private.ScriptMachine.{Assigning, Printing, Choosing, Counting, Bounding, Listing, Repeating, Yes, No, Counted, EachOf, Repeated, Enclosing, Within, Setting, In', Need, Have, At, sign_level, load}
use Rattle.lw_ast.proofs.ExpressionsAccepted.{joined-put}
use Rattle.lw_ast.proofs.ScriptsAccepted.{followed-behind, followed-over}
use Rattle.lw_ast.proofs.ExpressionsCounted.{heights, counts-height, above-last}

-- an expression of a statement, and the token behind it
counts-here : {ts rest : List ScriptLexeme} {a : Expression} (t : ScriptLexeme) (r : Reads 1 ts a (t ∷ rest)) (p : Setting) (w : ℕ) → sign_level t < 1 → load p [] ≡ w → heights ts (Need [] p) ≡ above w (unfinished r) ++ heights (t ∷ rest) (Have a [] p)
counts-here {rest = rest} {a = a} t r p w low is = counts-height r [] p (omega arith) low ∙ ap (λ n. above n (unfinished r) ++ heights (t ∷ rest) (Have a [] p)) is

-- two parts with a token between them, as many constructs round each
above-part : (w l : ℕ) (xs ys start behind rest : List ℕ) → l ≡ w → start ≡ above w xs ++ (l ∷ behind) → behind ≡ above w ys ++ rest → start ≡ above w (xs ++ (0 ∷ ys)) ++ rest
above-part w l xs ys start behind rest is first second = above-next w 0 w xs xs ys start (l ∷ behind) behind rest refl first (ap (λ n. n ∷ behind) (omega arith)) second

-- what stands between a word and its `end`
above-within : (w n l : ℕ) (xs start rest : List ℕ) → n ≡ w + 1 → l ≡ w → start ≡ above (suc w) xs ++ (l ∷ rest) → n ∷ start ≡ above w (1 ∷ (map suc xs ++ (0 ∷ []))) ++ rest
above-within w n l xs start rest one same is =
    let shift = above-closed w (suc w) xs rest (omega arith) in
    ap (λ m. m ∷ start) one ∙ ap (λ zs. (w + 1) ∷ zs) (is ∙ ap (λ m. above (suc w) xs ++ (m ∷ rest)) same ∙ shift)

counts-printed : {ts rest : List ScriptLexeme} {bs : Expressions} (items : Items Semicolon ts bs rest) (bodies : List Enclosing) (ss : Statements) (line : ℕ) (es : Expressions) → heights ts (Need [] (In' bodies ss line (Printing es))) ≡ above (length bodies) (unfinished_items 0 items) ++ heights rest (At (behind ss (at line (print (joined es bs)))) bodies)
counts-printed {rest = rest} (last_item {b = b} r) bodies ss line es =
    counts-here Semicolon r (In' bodies ss line (Printing es)) (length bodies) (omega arith) (omega arith)
    ∙ above-last (length bodies) 0 (length bodies) (unfinished r) (heights rest (At (behind ss (at line (print (put es b)))) bodies)) (omega arith)
counts-printed {rest = rest} (next_item {mid = mid} {b = b} {bs = bs} r items) bodies ss line es =
    above-next (length bodies) 0 (load (In' bodies ss line (Printing es)) []) (unfinished r) (above 0 (unfinished r)) (unfinished_items 0 items) _ _ _ _
    (above-above (length bodies) 0 (load (In' bodies ss line (Printing es)) []) (unfinished r) (omega arith))
    (counts-height r [] (In' bodies ss line (Printing es)) (omega arith) (omega arith))
    (ap (λ n. n ∷ heights mid (Need [] (In' bodies ss line (Printing (put es b))))) (omega arith))
    (counts-printed items bodies ss line (put es b) ∙ ap (λ ds. above (length bodies) (unfinished_items 0 items) ++ heights rest (At (behind ss (at line (print ds))) bodies)) (joined-put es b bs))

mutual
  counts-statement : {ts rest : List ScriptLexeme} {s : Statement} (st : States ts s rest) (ss : Statements) (bodies : List Enclosing) → heights ts (At ss bodies) ≡ above (length bodies) (unfinished_statement st) ++ heights rest (At (behind ss s) bodies)
  counts-statement {rest = rest} {s = s} (assignment {line} {x} r) ss bodies =
      let w = length bodies in
      let inner = counts-here Semicolon r (In' bodies ss line (Assigning x)) w (omega arith) (omega arith) in
      let last = above-append w (unfinished r) (0 ∷ []) (heights rest (At (behind ss s) bodies)) in
      let same : w + 0 ≡ w = omega arith in
      let also : load (In' bodies ss line (Assigning x)) [] ≡ w = omega arith in
      cc
  counts-statement (printing {line} items) ss bodies =
      let w = length bodies in
      let inner = counts-printed items bodies ss line none in
      let also : load (In' bodies ss line (Printing none)) [] ≡ w + 0 = omega arith in
      cc
  counts-statement {rest = rest} (choice {line} {mid = mid} {a = a} {ss = us} r body) ss bodies =
      let w = length bodies in
      let p = In' bodies ss line Choosing in
      above-within w (load p []) w (unfinished r ++ (0 ∷ unfinished_block body)) _ _ (omega arith) refl
      (above-part (suc w) (suc w) (unfinished r) (unfinished_block body) _ _ _ refl
      (counts-here Then r p (suc w) (omega arith) (omega arith))
      (counts-block body over (Within ss line (Yes a) ∷ bodies)))
  counts-statement {rest = rest} (choice_of_two {line} {a = a} {ss = us} r first second) ss bodies =
      let w = length bodies in
      let p = In' bodies ss line Choosing in
      above-within w (load p []) w (unfinished r ++ (0 ∷ (unfinished_block first ++ (0 ∷ unfinished_block second)))) _ _ (omega arith) refl
      (above-part (suc w) (suc w) (unfinished r) (unfinished_block first ++ (0 ∷ unfinished_block second)) _ _ _ refl
      (counts-here Then r p (suc w) (omega arith) (omega arith))
      (above-part (suc w) (suc w) (unfinished_block first) (unfinished_block second) _ _ _ refl
      (counts-block first over (Within ss line (Yes a) ∷ bodies))
      (counts-block second over (Within ss line (No a us) ∷ bodies))))
  counts-statement {rest = rest} (counting {line} {x = x} {a = a} {b = b} r s body) ss bodies =
      let w = length bodies in
      let p = In' bodies ss line (Counting x) in
      let q = In' bodies ss line (Bounding x a) in
      ap (λ zs. (w + 1) ∷ (w + 1) ∷ zs)
      (above-within w (load p []) w (unfinished r ++ (0 ∷ (unfinished s ++ (0 ∷ unfinished_block body)))) _ _ (omega arith) refl
      (above-part (suc w) (load q []) (unfinished r) (unfinished s ++ (0 ∷ unfinished_block body)) _ _ _ (omega arith)
      (counts-here To r p (suc w) (omega arith) (omega arith))
      (above-part (suc w) (suc w) (unfinished s) (unfinished_block body) _ _ _ refl
      (counts-here Do s q (suc w) (omega arith) (omega arith))
      (counts-block body over (Within ss line (Counted x a b) ∷ bodies)))))
  counts-statement {rest = rest} (each_item {line} {x = x} {a = a} r body) ss bodies =
      let w = length bodies in
      let p = In' bodies ss line (Listing x) in
      ap (λ zs. (w + 1) ∷ (w + 1) ∷ zs)
      (above-within w (load p []) w (unfinished r ++ (0 ∷ unfinished_block body)) _ _ (omega arith) refl
      (above-part (suc w) (suc w) (unfinished r) (unfinished_block body) _ _ _ refl
      (counts-here Do r p (suc w) (omega arith) (omega arith))
      (counts-block body over (Within ss line (EachOf x a) ∷ bodies))))
  counts-statement {rest = rest} (repetition {line} {a = a} r body) ss bodies =
      let w = length bodies in
      let p = In' bodies ss line Repeating in
      above-within w (load p []) w (unfinished r ++ (0 ∷ unfinished_block body)) _ _ (omega arith) refl
      (above-part (suc w) (suc w) (unfinished r) (unfinished_block body) _ _ _ refl
      (counts-here Do r p (suc w) (omega arith) (omega arith))
      (counts-block body over (Within ss line (Repeated a) ∷ bodies)))

  counts-block : {ts rest : List ScriptLexeme} {us : Statements} (f : Follow ts us rest) (ss : Statements) (bodies : List Enclosing) → heights ts (At ss bodies) ≡ above (length bodies) (unfinished_block f) ++ heights rest (At (followed ss us) bodies)
  counts-block {rest = rest} (no_statement is) ss bodies = ap (λ from. heights from (At ss bodies)) is ∙ ap (λ us. heights rest (At us bodies)) (sym (followed-over ss))
  counts-block {rest = rest} (statement {s = s} {ss = us} first others) ss bodies =
      let w = length bodies in
      let one = counts-statement first ss bodies in
      let more = counts-block others (behind ss s) bodies in
      let same = ap (λ us. heights rest (At us bodies)) (followed-behind ss s us) in
      let parts = above-append w (unfinished_statement first) (unfinished_block others) (heights rest (At (followed (behind ss s) us) bodies)) in
      one ∙ ap (λ zs. above w (unfinished_statement first) ++ zs) more ∙ parts ∙ ap (λ zs. above w (unfinished_statement first ++ unfinished_block others) ++ zs) same

pub counts-are : (ts : List ScriptLexeme) (ss : Statements) (text : IsScript ts ss) → unfinished_block text ++ (0 ∷ []) ≡ heights ts (At over [])
counts-are ts ss text = sym (counts-block text over [] ∙ ap (λ xs. xs ++ (0 ∷ [])) (above-zero (unfinished_block text)))
