-- Tokens that go on with nothing where they stand.
use Rattle.std.proofs.Common.{◌≡◌, ◌≢◌, ℕ, ◌<◌, Bool, true, false, cond, List, [], ◌∷◌, length, map, slice_index, refl, sym, ◌∙◌, arith}
use Rattle.std.proofs.lemmas.Bool.{false≢true}
use Rattle.std.proofs.lemmas.List.{length-map, length-reverse}
use Rattle.lw_formula.specs.Name.{is_upper}
use Rattle.lw_read.specs.Lexemes.{is_variable}
use Rattle.lw_ast.specs.declared.function.Function.{Function}
use Rattle.lw_ast.specs.declared.operator.Link.{Link}
use Rattle.lw_ast.specs.declared.operator.Relation.{Relation}
use Rattle.lw_ast.specs.declared.operator.Series.{Series}
use Rattle.lw_ast.specs.declared.operator.Series.TheVariants.{Sum, Product}
use Rattle.lw_ast.specs.declared.construct.Unfinished.{Unfinished}
use Rattle.lw_ast.specs.declared.operator.Op.{Op}
use Rattle.lw_ast.specs.declared.part.Part.{Part}
use Rattle.lw_ast.specs.declared.part.Part.TheVariants as part
use Rattle.lw_ast.specs.Trees.{Expression, Statements, variable, no_more}
use Rattle.lw_ast.specs.ScriptLexemes.{ScriptLexeme, Atom, Upper, Foreign, name_sign}
use Rattle.lw_ast.specs.ScriptGrammar.{chain_level}
use Rattle.lw_ast.specs.Private.ScriptMachine.{Frame, Linked, Setting, Enclosing, Need, Astray, where_fits, is_chained, chain, sign_level, go_on, leave, leave_all, open_call, name, loop, loop_name}
use Rattle.lw_ast.specs.Private.ReaderViews.{lexeme, frame, frames}

-- a word is a script variable, a propositional variable or foreign
module _ (P : ScriptLexeme → Type 0)
    (uppers : (line : ℕ) (x : List ℕ) → P (Upper line x)) (variables : (x : List ℕ) → P (Atom (variable x))) (foreign : P Foreign)
  where
    of_tests : (u v : Bool) (line : ℕ) (x : List ℕ) → P (cond u (Upper line x) (cond v (Atom (variable x)) Foreign))
    of_tests true v line x = uppers line x
    of_tests false true line x = variables x
    of_tests false false line x = foreign

    pub of_names : (line : ℕ) (x : List ℕ) → P (name_sign line x)
    unfolding name_sign
    of_names line x = of_tests (is_upper (slice_index x 0)) (is_variable x) line x

pub open_call_stray : (p : Part) (line : ℕ) (bytes : List ℕ) (f : Function) (fs : List Frame) (s : Setting) → p ≢ part.Open → open_call (lexeme p line bytes) f fs s ≡ Astray
open_call_stray part.Open line bytes f fs s not = absurd (not refl)
open_call_stray part.Word line bytes f fs s not = of_names (λ t. open_call t f fs s ≡ Astray) (λ line x. refl) (λ x. refl) refl line bytes
open_call_stray _ line bytes f fs s not = refl

pub name_stray : (p : Part) (here : ℕ) (bytes : List ℕ) (x : List ℕ) (line : ℕ) (ss : Statements) (bs : List Enclosing) → p ≢ part.Becomes → name (lexeme p here bytes) x line ss bs ≡ Astray
name_stray part.Becomes here bytes x line ss bs not = absurd (not refl)
name_stray part.Word here bytes x line ss bs not = of_names (λ t. name t x line ss bs ≡ Astray) (λ here x. refl) (λ x. refl) refl here bytes
name_stray _ here bytes x line ss bs not = refl

pub loop_stray : (p : Part) (here : ℕ) (bytes : List ℕ) (line : ℕ) (ss : Statements) (bs : List Enclosing) → p ≢ part.Word → loop (lexeme p here bytes) line ss bs ≡ Astray
loop_stray part.Word here bytes line ss bs not = absurd (not refl)
loop_stray _ here bytes line ss bs not = refl

pub loop_name_stray : (p : Part) (here : ℕ) (bytes : List ℕ) (x : List ℕ) (line : ℕ) (ss : Statements) (bs : List Enclosing) → p ≢ part.Becomes → p ≢ part.In → loop_name (lexeme p here bytes) x line ss bs ≡ Astray
loop_name_stray part.Becomes here bytes x line ss bs not neither = absurd (not refl)
loop_name_stray part.In here bytes x line ss bs not neither = absurd (neither refl)
loop_name_stray part.Word here bytes x line ss bs not neither = of_names (λ t. loop_name t x line ss bs ≡ Astray) (λ here x. refl) (λ x. refl) refl here bytes
loop_name_stray _ here bytes x line ss bs not neither = refl

leave_all_some : (t : ScriptLexeme) (a : Expression) (fs : List Frame) (s : Setting) → 0 < length fs → leave_all t a fs s ≡ Astray
leave_all_some t a [] s some = absurd (omega arith)
leave_all_some t a (f ∷ fs) s some = refl

pub leave_all_within : (t : ScriptLexeme) (a : Expression) (items : List Unfinished) (s : Setting) → 0 < length items → leave_all t a (frames items) s ≡ Astray
leave_all_within t a items s some =
    let same : length (frames items) ≡ length items = length-reverse (map frame items) ∙ length-map items frame in
    leave_all_some t a (frames items) s (omega arith)

leave_stray : (p : Part) (line : ℕ) (bytes : List ℕ) (a : Expression) (s : Setting) → p ≢ part.Semicolon → p ≢ part.Then → p ≢ part.To → p ≢ part.Do → leave (lexeme p line bytes) a s ≡ Astray
leave_stray part.Semicolon line bytes a s no_semicolon no_then no_to no_do = absurd (no_semicolon refl)
leave_stray part.Then line bytes a s no_semicolon no_then no_to no_do = absurd (no_then refl)
leave_stray part.To line bytes a s no_semicolon no_then no_to no_do = absurd (no_to refl)
leave_stray part.Do line bytes a s no_semicolon no_then no_to no_do = absurd (no_do refl)
leave_stray part.Word line bytes a s no_semicolon no_then no_to no_do = of_names (λ t. leave t a s ≡ Astray) (λ line x. refl) (λ x. refl) refl line bytes
leave_stray _ line bytes a s no_semicolon no_then no_to no_do = refl

pub leave_all_stray : (p : Part) (line : ℕ) (bytes : List ℕ) (a : Expression) (fs : List Frame) (s : Setting) → p ≢ part.Semicolon → p ≢ part.Then → p ≢ part.To → p ≢ part.Do → leave_all (lexeme p line bytes) a fs s ≡ Astray
leave_all_stray p line bytes a [] s no_semicolon no_then no_to no_do = leave_stray p line bytes a s no_semicolon no_then no_to no_do
leave_all_stray p line bytes a (f ∷ fs) s no_semicolon no_then no_to no_do = refl

pub sign_level_none : (p : Part) (line : ℕ) (bytes : List ℕ) → ((link : Link) → p ≢ part.Between link) → ((r : Relation) → p ≢ part.Compare r) → ((k : Series) (s : Op) → p ≢ part.Chained k s) → 0 ≡ sign_level (lexeme p line bytes)
sign_level_none (part.Between link) line bytes no_link no_relation no_chain = absurd (no_link link refl)
sign_level_none (part.Compare r) line bytes no_link no_relation no_chain = absurd (no_relation r refl)
sign_level_none (part.Chained k s) line bytes no_link no_relation no_chain = absurd (no_chain k s refl)
sign_level_none part.Word line bytes no_link no_relation no_chain = of_names (λ t. 0 ≡ sign_level t) (λ line x. refl) (λ x. refl) refl line bytes
sign_level_none _ line bytes no_link no_relation no_chain = refl

-- what is neither a sign nor closes a bracket, nor a comma, may end an expression of a statement
pub go_on_leaves : (p : Part) (line : ℕ) (bytes : List ℕ) (a : Expression) (fs : List Frame) (s : Setting)
    → ((link : Link) → p ≢ part.Between link) → ((r : Relation) → p ≢ part.Compare r) → ((k : Series) (s : Op) → p ≢ part.Chained k s)
    → p ≢ part.Close → p ≢ part.CloseList → p ≢ part.Comma
    → go_on s (lexeme p line bytes) a fs ≡ leave_all (lexeme p line bytes) a fs s
go_on_leaves (part.Between link) line bytes a fs s no_link no_relation no_chain no_close no_list no_comma = absurd (no_link link refl)
go_on_leaves (part.Compare r) line bytes a fs s no_link no_relation no_chain no_close no_list no_comma = absurd (no_relation r refl)
go_on_leaves (part.Chained k sign) line bytes a fs s no_link no_relation no_chain no_close no_list no_comma = absurd (no_chain k sign refl)
go_on_leaves part.Close line bytes a fs s no_link no_relation no_chain no_close no_list no_comma = absurd (no_close refl)
go_on_leaves part.CloseList line bytes a fs s no_link no_relation no_chain no_close no_list no_comma = absurd (no_list refl)
go_on_leaves part.Comma line bytes a fs s no_link no_relation no_chain no_close no_list no_comma = absurd (no_comma refl)
go_on_leaves part.Word line bytes a fs s no_link no_relation no_chain no_close no_list no_comma = of_names (λ t. go_on s t a fs ≡ leave_all t a fs s) (λ line x. refl) (λ x. refl) refl line bytes
go_on_leaves _ line bytes a fs s no_link no_relation no_chain no_close no_list no_comma = refl

-- a sign that goes on with no sum or product begins one
pub chain_begins : (k : Series) (sign : Op) (a : Expression) (fs : List Frame) (s : Setting) → is_chained k fs ≡ false
    → chain k sign a fs s ≡ where_fits (chain_level k) fs (Need (Linked k a no_more sign ∷ fs) s)
chain_begins Sum sign a (Linked Sum b bs t ∷ fs) s fresh = absurd (false≢true (sym fresh))
chain_begins Product sign a (Linked Product b bs t ∷ fs) s fresh = absurd (false≢true (sym fresh))
chain_begins Sum sign a (Linked Product b bs t ∷ fs) s fresh = refl
chain_begins Product sign a (Linked Sum b bs t ∷ fs) s fresh = refl
chain_begins Sum sign a _ s fresh = refl
chain_begins Product sign a _ s fresh = refl
