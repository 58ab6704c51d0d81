-- The words of the logics.
use Rattle.std.specs.Prelude.{ℕ, List, Option, Some, None, if◌then◌else◌, codes}
use Rattle.std.specs.Str.{bytes_eq}
use Rattle.lw_formula.specs.declared.logic.Logic.{Logic}
use Rattle.lw_formula.specs.declared.logic.Logic.TheVariants.{K, KT, S4, S5, GL, Grz, K4, KD}

-- the word that stands for the logic in texts
abbrev pub word_of : Logic → List ℕ
word_of K = codes "k"
word_of KT = codes "kt"
word_of S4 = codes "s4"
word_of S5 = codes "s5"
word_of GL = codes "gl"
word_of Grz = codes "grz"
word_of K4 = codes "k4"
word_of KD = codes "kd"

-- the logic that the word stands for, if it is the word of one
abbrev pub logic_of : List ℕ → Option Logic
logic_of word =
    if bytes_eq word (word_of K) then Some K else
    if bytes_eq word (word_of KT) then Some KT else
    if bytes_eq word (word_of S4) then Some S4 else
    if bytes_eq word (word_of S5) then Some S5 else
    if bytes_eq word (word_of GL) then Some GL else
    if bytes_eq word (word_of Grz) then Some Grz else
    if bytes_eq word (word_of K4) then Some K4 else
    if bytes_eq word (word_of KD) then Some KD else None
