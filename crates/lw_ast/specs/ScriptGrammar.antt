-- The grammar of scripts.
--
--     Script := { Stmt }
--     Stmt   := Upper ":=" Expr ";"
--             | "print" Expr { "," Expr } ";"
--             | "if" Expr "then" { Stmt } [ "else" { Stmt } ] "end"
--             | "for" Upper ":=" Expr "to" Expr "do" { Stmt } "end"
--             | "for" Upper "in" Expr "do" { Stmt } "end"
--             | "while" Expr "do" { Stmt } "end"
--     Expr   := Both [ "or" Expr ]
--     Both   := Deny [ "and" Both ]
--     Deny   := "not" Deny | Cmp
--     Cmp    := Equ [ ( "==" | "!=" | "<" | "<=" ) Equ ]
--     Equ    := Imp [ "<->" Equ ]
--     Imp    := Dis [ "->" Imp ]
--     Dis    := Con [ "v" Dis ]
--     Con    := Sum [ "&" Con ]
--     Sum    := Prod { ( "+" | "-" ) Prod }
--     Prod   := Pre { "*" Pre }
--     Pre    := "~" Pre | "box" Pre | "dia" Pre | Atom
--     Atom   := number | text | "true" | "false" | "yes" | "no" | "none" | variable | Upper | logic
--             | function "(" Expr { "," Expr } ")" | "[" [ Expr { "," Expr } ] "]" | "(" Expr ")"
use Rattle.std.specs.Prelude.{◌≡◌, ℕ, suc, ◌+◌, ◌≤◌, List, [], ◌∷◌, ◌++◌, map}
use Rattle.lw_formula.specs.declared.joint.Joint.TheVariants.{And, Or, Imp, Iff}
use Rattle.lw_read.specs.Language.{Language}
use Rattle.lw_ast.specs.declared.operator.Op.{Op}
use Rattle.lw_ast.specs.declared.operator.Relation.{Relation}
use Rattle.lw_ast.specs.declared.operator.Prefix.{Prefix}
use Rattle.lw_ast.specs.declared.function.Function.{Function}
use Rattle.lw_ast.specs.declared.operator.Series.{Series}
use Rattle.lw_ast.specs.declared.operator.Series.TheVariants.{Sum, Product}
use Rattle.lw_ast.specs.declared.operator.Link.{Link}
use Rattle.lw_ast.specs.declared.operator.Link.TheVariants.{Either, Both, Binary}
use Rattle.lw_ast.specs.Trees.{Expression, upper, prefixed, linked, chained, compared, denied, list, call, Expressions, none, more, Operands, no_more, signed, assign, print, choose, count_up, each, repeat, Statement, at, Statements, over, then}
use Rattle.lw_ast.specs.ScriptLexemes.{ScriptLexeme, Atom, Upper, Before, Deny, Between, Compare, Chained, Open, Close, OpenList, CloseList, Comma, Calls, Becomes, Semicolon, Print, If, Then, Else, End, For, To, In, Do, While, Stops, script_lexeme_of, is_long}
use Rattle.lw_ast.specs.Functions.{arity}

-- the level of the grammar at which the link stands: 1 is Expr, 2 Both, 3 Deny, 4 Cmp, 5 Equ, 6 Imp, 7 Dis, 8 Con,
-- 9 Sum, 10 Prod, 11 Pre
abbrev pub link_level : Link → ℕ
link_level Either = 1
link_level Both = 2
link_level (Binary Iff) = 5
link_level (Binary Imp) = 6
link_level (Binary Or) = 7
link_level (Binary And) = 8

-- and that of sums and products
abbrev pub chain_level : Series → ℕ
chain_level Sum = 9
chain_level Product = 10

mutual
  -- the tokens `ts` are an expression of level n with this tree, and behind it stands `rest`; an expression of a level
  -- is one of each looser level too
  pub data Reads : ℕ → List ScriptLexeme → Expression → List ScriptLexeme → Type 0 where
    atom : {n : ℕ} {a : Expression} {rest : List ScriptLexeme} → Reads n (Atom a ∷ rest) a rest
    script_variable : {n line : ℕ} {x : List ℕ} {rest : List ScriptLexeme} → Reads n (Upper line x ∷ rest) (upper x) rest
    signed_operand : {n : ℕ} {ts rest : List ScriptLexeme} {a : Expression} (sign : Prefix) →
        Reads 11 ts a rest → Reads n (Before sign ∷ ts) (prefixed sign a) rest
    denial : {n : ℕ} {ts rest : List ScriptLexeme} {a : Expression} → n ≤ 3 →
        Reads 3 ts a rest → Reads n (Deny ∷ ts) (denied a) rest
    linking : {n : ℕ} {ts mid rest : List ScriptLexeme} {a b : Expression} (link : Link) → n ≤ link_level link →
        Reads (link_level link + 1) ts a (Between link ∷ mid) → Reads (link_level link) mid b rest →
        Reads n ts (linked link a b) rest
    comparison : {n : ℕ} {ts mid rest : List ScriptLexeme} {a b : Expression} (r : Relation) → n ≤ 4 →
        Reads 5 ts a (Compare r ∷ mid) → Reads 5 mid b rest → Reads n ts (compared r a b) rest
    chaining : {n : ℕ} {ts mid rest : List ScriptLexeme} {a : Expression} {bs : Operands} (k : Series) (s : Op) → n ≤ chain_level k →
        Reads (chain_level k + 1) ts a (Chained k s ∷ mid) → Terms k s mid bs rest → Reads n ts (chained k a bs) rest
    bracketed : {n : ℕ} {ts rest : List ScriptLexeme} {a : Expression} → Reads 1 ts a (Close ∷ rest) → Reads n (Open ∷ ts) a rest
    empty_list : {n : ℕ} {rest : List ScriptLexeme} → Reads n (OpenList ∷ CloseList ∷ rest) (list none) rest
    listed : {n : ℕ} {ts rest : List ScriptLexeme} {bs : Expressions} → Items CloseList ts bs rest → Reads n (OpenList ∷ ts) (list bs) rest
    called : {n : ℕ} {ts rest : List ScriptLexeme} {bs : Expressions} (f : Function) → Arguments (arity f) ts bs rest →
        Reads n (Calls f ∷ Open ∷ ts) (call f bs) rest

  -- the operands behind a sign of a sum or a product
  pub data Terms : Series → Op → List ScriptLexeme → Operands → List ScriptLexeme → Type 0 where
    last : {k : Series} {s : Op} {ts rest : List ScriptLexeme} {b : Expression} →
        Reads (chain_level k + 1) ts b rest → Terms k s ts (signed s b no_more) rest
    next : {k : Series} {s : Op} {ts mid rest : List ScriptLexeme} {b : Expression} {bs : Operands} (t : Op) →
        Reads (chain_level k + 1) ts b (Chained k t ∷ mid) → Terms k t mid bs rest → Terms k s ts (signed s b bs) rest

  -- expressions parted by commas, up to a closing token
  pub data Items : ScriptLexeme → List ScriptLexeme → Expressions → List ScriptLexeme → Type 0 where
    last_item : {closer : ScriptLexeme} {ts rest : List ScriptLexeme} {b : Expression} →
        Reads 1 ts b (closer ∷ rest) → Items closer ts (more b none) rest
    next_item : {closer : ScriptLexeme} {ts mid rest : List ScriptLexeme} {b : Expression} {bs : Expressions} →
        Reads 1 ts b (Comma ∷ mid) → Items closer mid bs rest → Items closer ts (more b bs) rest

  -- so many arguments
  pub data Arguments : ℕ → List ScriptLexeme → Expressions → List ScriptLexeme → Type 0 where
    last_argument : {m : ℕ} {ts rest : List ScriptLexeme} {b : Expression} → m ≡ 1 →
        Reads 1 ts b (Close ∷ rest) → Arguments m ts (more b none) rest
    next_argument : {m k : ℕ} {ts mid rest : List ScriptLexeme} {b : Expression} {bs : Expressions} → m ≡ suc k →
        Reads 1 ts b (Comma ∷ mid) → Arguments k mid bs rest → Arguments m ts (more b bs) rest

mutual
  -- the tokens `ts` are this statement, and behind it stands `rest`
  pub data States : List ScriptLexeme → Statement → List ScriptLexeme → Type 0 where
    assignment : {line : ℕ} {x : List ℕ} {ts rest : List ScriptLexeme} {a : Expression} →
        Reads 1 ts a (Semicolon ∷ rest) → States (Upper line x ∷ Becomes ∷ ts) (at line (assign x a)) rest
    printing : {line : ℕ} {ts rest : List ScriptLexeme} {es : Expressions} →
        Items Semicolon ts es rest → States (Print line ∷ ts) (at line (print es)) rest
    choice : {line : ℕ} {ts mid rest : List ScriptLexeme} {a : Expression} {ss : Statements} →
        Reads 1 ts a (Then ∷ mid) → Follow mid ss (End ∷ rest) → States (If line ∷ ts) (at line (choose a ss over)) rest
    choice_of_two : {line : ℕ} {ts first second rest : List ScriptLexeme} {a : Expression} {ss us : Statements} →
        Reads 1 ts a (Then ∷ first) → Follow first ss (Else ∷ second) → Follow second us (End ∷ rest) →
        States (If line ∷ ts) (at line (choose a ss us)) rest
    counting : {line there : ℕ} {x : List ℕ} {ts to body rest : List ScriptLexeme} {a b : Expression} {ss : Statements} →
        Reads 1 ts a (To ∷ to) → Reads 1 to b (Do ∷ body) → Follow body ss (End ∷ rest) →
        States (For line ∷ Upper there x ∷ Becomes ∷ ts) (at line (count_up x a b ss)) rest
    each_item : {line there : ℕ} {x : List ℕ} {ts body rest : List ScriptLexeme} {a : Expression} {ss : Statements} →
        Reads 1 ts a (Do ∷ body) → Follow body ss (End ∷ rest) →
        States (For line ∷ Upper there x ∷ In ∷ ts) (at line (each x a ss)) rest
    repetition : {line : ℕ} {ts body rest : List ScriptLexeme} {a : Expression} {ss : Statements} →
        Reads 1 ts a (Do ∷ body) → Follow body ss (End ∷ rest) → States (While line ∷ ts) (at line (repeat a ss)) rest

  -- the tokens `ts` are these statements, one after another, and behind them stands `rest`
  pub data Follow : List ScriptLexeme → Statements → List ScriptLexeme → Type 0 where
    no_statement : {ts rest : List ScriptLexeme} → ts ≡ rest → Follow ts over rest
    statement : {ts mid rest : List ScriptLexeme} {s : Statement} {ss : Statements} →
        States ts s mid → Follow mid ss rest → Follow ts (then s ss) rest

abbrev mutual
  -- how many constructs of an expression are unfinished at each of its tokens: a bracket until it is closed, a prefix
  -- and `not` until the end of their operand, an operator from its token to the end of the expression of its level
  pub unfinished : {n : ℕ} {ts rest : List ScriptLexeme} {a : Expression} → Reads n ts a rest → List ℕ
  unfinished atom = 0 ∷ []
  unfinished script_variable = 0 ∷ []
  unfinished (signed_operand sign r) = 1 ∷ map suc (unfinished r)
  unfinished (denial le r) = 1 ∷ map suc (unfinished r)
  unfinished (linking link le r s) = unfinished r ++ (1 ∷ map suc (unfinished s))
  unfinished (comparison rel le r s) = unfinished r ++ (1 ∷ map suc (unfinished s))
  unfinished (chaining k s le r terms) = unfinished r ++ (1 ∷ unfinished_terms 1 terms)
  unfinished (bracketed r) = 1 ∷ (map suc (unfinished r) ++ (0 ∷ []))
  unfinished empty_list = 1 ∷ 0 ∷ []
  unfinished (listed items) = 1 ∷ unfinished_items 1 items
  unfinished (called f arguments) = 0 ∷ 1 ∷ unfinished_arguments arguments

  -- each sign of a sum or a product is unfinished to the end of the whole
  pub unfinished_terms : {k : Series} {s : Op} {ts rest : List ScriptLexeme} {bs : Operands} → ℕ → Terms k s ts bs rest → List ℕ
  unfinished_terms signs (last r) = map (λ (k : ℕ). signs + k) (unfinished r)
  unfinished_terms signs (next t r terms) =
      map (λ (k : ℕ). signs + k) (unfinished r) ++ (suc signs ∷ unfinished_terms (suc signs) terms)

  -- and within so many brackets
  pub unfinished_items : {closer : ScriptLexeme} {ts rest : List ScriptLexeme} {bs : Expressions} → ℕ → Items closer ts bs rest → List ℕ
  unfinished_items round (last_item r) = map (λ (k : ℕ). round + k) (unfinished r) ++ (0 ∷ [])
  unfinished_items round (next_item r items) = map (λ (k : ℕ). round + k) (unfinished r) ++ (round ∷ unfinished_items round items)

  pub unfinished_arguments : {m : ℕ} {ts rest : List ScriptLexeme} {bs : Expressions} → Arguments m ts bs rest → List ℕ
  unfinished_arguments (last_argument is r) = map suc (unfinished r) ++ (0 ∷ [])
  unfinished_arguments (next_argument is r arguments) = map suc (unfinished r) ++ (1 ∷ unfinished_arguments arguments)

abbrev mutual
  -- and of a statement: `if`, `for` and `while` until their `end`
  pub unfinished_statement : {ts rest : List ScriptLexeme} {s : Statement} → States ts s rest → List ℕ
  unfinished_statement (assignment r) = 0 ∷ 0 ∷ (unfinished r ++ (0 ∷ []))
  unfinished_statement (printing items) = 0 ∷ unfinished_items 0 items
  unfinished_statement (choice r body) = 1 ∷ (map suc (unfinished r ++ (0 ∷ unfinished_block body)) ++ (0 ∷ []))
  unfinished_statement (choice_of_two r first second) =
      1 ∷ (map suc (unfinished r ++ (0 ∷ (unfinished_block first ++ (0 ∷ unfinished_block second)))) ++ (0 ∷ []))
  unfinished_statement (counting r s body) =
      1 ∷ 1 ∷ 1 ∷ (map suc (unfinished r ++ (0 ∷ (unfinished s ++ (0 ∷ unfinished_block body)))) ++ (0 ∷ []))
  unfinished_statement (each_item r body) = 1 ∷ 1 ∷ 1 ∷ (map suc (unfinished r ++ (0 ∷ unfinished_block body)) ++ (0 ∷ []))
  unfinished_statement (repetition r body) = 1 ∷ (map suc (unfinished r ++ (0 ∷ unfinished_block body)) ++ (0 ∷ []))

  pub unfinished_block : {ts rest : List ScriptLexeme} {ss : Statements} → Follow ts ss rest → List ℕ
  unfinished_block (no_statement is) = []
  unfinished_block (statement s ss) = unfinished_statement s ++ unfinished_block ss

-- the tokens are a whole text with these statements
abbrev pub IsScript : List ScriptLexeme → Statements → Type 0
IsScript ts ss = Follow ts ss (Stops ∷ [])

-- the language of scripts; at the end of a text nothing is unfinished
abbrev pub script_language : Language ScriptLexeme Statements
script_language = record {
  lexeme_of = script_lexeme_of;
  IsText = IsScript;
  counts = λ ts ss text. unfinished_block text ++ (0 ∷ []);
  is_long = is_long;
}
