use Rattle.std.proofs.Common.{◌≡◌, length, find, drop, nat_eq}
use Rattle.std.specs.List.{starts_with}
use Rattle.std.specs.Option.{option_map_or}
use Rattle.lw_read.proofs.lexer.symbol_len.Given as goal

abbrev pub invariant-loop-symbol : goal.invariant-loop-symbol
invariant-loop-symbol l =
    option_map_or (λ s. length s.now) (find (λ s. starts_with nat_eq l.text s.now) (drop l.symbol-index l.symbols)) 0
    ≡ option_map_or (λ s. length s.now) (find (λ s. starts_with nat_eq l.text s.now) l.symbols) 0
