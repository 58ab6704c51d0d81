-- The functions of scripts: the word of each, and how many arguments it takes.
use Rattle.std.specs.Prelude.{ℕ, List, Option, Some, None, if◌then◌else◌, codes}
use Rattle.std.specs.Str.{bytes_eq}
use Rattle.lw_ast.specs.declared.function.Function.{Function}
use Rattle.lw_ast.specs.declared.function.Function.TheVariants.{Provable, Certificate, Interpolate, Fixpoint, Nnf, Simplify, Goedel, Boxdot, Substitute, Vars, Depth, Count, Length, Item, Append, Smallest, Trace, Letterless, Shared}

-- how many arguments the function takes
abbrev pub arity : Function → ℕ
arity Provable = 2
arity Certificate = 2
arity Interpolate = 3
arity Fixpoint = 2
arity Nnf = 1
arity Simplify = 1
arity Goedel = 1
arity Boxdot = 1
arity Substitute = 3
arity Vars = 1
arity Depth = 1
arity Count = 1
arity Length = 1
arity Item = 2
arity Append = 2
arity Smallest = 1
arity Trace = 1
arity Letterless = 1
arity Shared = 1

-- the function that the word stands for, if it is the word of one
unfoldable pub function_of : List ℕ → Option Function
function_of word =
    if bytes_eq word (codes "provable") then Some Provable else
    if bytes_eq word (codes "certificate") then Some Certificate else
    if bytes_eq word (codes "interpolate") then Some Interpolate else
    if bytes_eq word (codes "fixpoint") then Some Fixpoint else
    if bytes_eq word (codes "nnf") then Some Nnf else
    if bytes_eq word (codes "simplify") then Some Simplify else
    if bytes_eq word (codes "goedel") then Some Goedel else
    if bytes_eq word (codes "boxdot") then Some Boxdot else
    if bytes_eq word (codes "substitute") then Some Substitute else
    if bytes_eq word (codes "vars") then Some Vars else
    if bytes_eq word (codes "depth") then Some Depth else
    if bytes_eq word (codes "count") then Some Count else
    if bytes_eq word (codes "length") then Some Length else
    if bytes_eq word (codes "item") then Some Item else
    if bytes_eq word (codes "append") then Some Append else
    if bytes_eq word (codes "smallest") then Some Smallest else
    if bytes_eq word (codes "trace") then Some Trace else
    if bytes_eq word (codes "letterless") then Some Letterless else
    if bytes_eq word (codes "shared") then Some Shared else None
