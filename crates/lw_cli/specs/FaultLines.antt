-- The lines that say what is wrong with a file, with their line feeds.
use Rattle.std.specs.Prelude.{ℕ, List, [], ◌∷◌, ◌++◌, codes}
use Rattle.std.specs.Fmt.{decimal}
use Rattle.lw_formula.specs.Logic as logic
use Rattle.lw_trans.specs.declared.connective.Connective.{Connective}
use Rattle.lw_trans.specs.declared.connective.Connective.TheVariants as connective
use Rattle.lw_ast.specs.declared.fault.SyntaxWhy.{SyntaxWhy}
use Rattle.lw_ast.specs.declared.fault.SyntaxWhy.TheVariants.{Unexpected, Nested, Name, Number}
use Rattle.lw_eval.specs.declared.trouble.Trouble.{Trouble}
use Rattle.lw_eval.specs.declared.trouble.Trouble.TheVariants.{TextLimit, TooLarge, NoInterpolants, NotModalised, TooManyBoxes, NotIntuitionistic, NotLetterless, Unbound, Kind, Range, StepLimit}

-- of a file that is too long
abbrev pub file_limit_line : List ℕ
file_limit_line = codes "fault: file limit" ++ 10 ∷ []

-- the word for what is wrong with a token
abbrev pub syntax_word : SyntaxWhy → List ℕ
syntax_word Unexpected = codes "unexpected"
syntax_word Nested = codes "nested"
syntax_word Name = codes "name"
syntax_word Number = codes "number"

-- of a text whose first fault is at this line and column
abbrev pub syntax_line : ℕ → ℕ → SyntaxWhy → List ℕ
syntax_line line column why =
    codes "fault: line " ++ (decimal line ++ (codes " column " ++ (decimal column ++ (codes ": " ++ (syntax_word why ++ 10 ∷ [])))))

-- the connective as formulas have it
abbrev pub connective_word : Connective → List ℕ
connective_word connective.Nec = codes "box"
connective_word connective.Poss = codes "dia"
connective_word connective.Iff = codes "<->"
connective_word connective.Top = codes "true"

-- the words for a run's trouble
abbrev pub trouble_words : Trouble → List ℕ
trouble_words TextLimit = codes "text limit"
trouble_words (TooLarge n) = codes "too large " ++ decimal n
trouble_words (NoInterpolants l) = codes "no interpolants " ++ logic.word_of l
trouble_words NotModalised = codes "not modalised"
trouble_words (TooManyBoxes n) = codes "too many boxes " ++ decimal n
trouble_words (NotIntuitionistic what) = codes "not intuitionistic " ++ connective_word what
trouble_words (NotLetterless p) = codes "not letterless " ++ p
trouble_words (Unbound x) = codes "unbound " ++ x
trouble_words Kind = codes "kind"
trouble_words Range = codes "range"
trouble_words StepLimit = codes "step limit"

-- of a run that ends at this line in this trouble
abbrev pub trouble_line : ℕ → Trouble → List ℕ
trouble_line line t = codes "fault: line " ++ (decimal line ++ (codes ": " ++ (trouble_words t ++ 10 ∷ [])))
