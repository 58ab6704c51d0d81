-- Laws of the translations, each a fact that stands by itself.
use Rattle.std.specs.Prelude.{◌↔◌}
use Rattle.lw_formula.specs.declared.logic.Logic.TheVariants.{S4, GL, Grz}
use Rattle.lw_formula.specs.Formula.{Formula}
use Rattle.lw_formula.specs.Validity.{Valid}
use Rattle.lw_trans.specs.Translations.{goedel, boxdot}
use Rattle.lw_trans.specs.Connectives.{IsIntuitionistic}
use Rattle.lw_trans.specs.Intuitionistic.{IntValid}

-- an intuitionistic formula is intuitionistically valid exactly where its translation is valid in S4
abbrev pub GoedelIsFaithful : Type 0
GoedelIsFaithful = (a : Formula) → IsIntuitionistic a → IntValid a ↔ Valid S4 (goedel a)

-- a formula is valid in Grz exactly where its translation is valid in GL
abbrev pub BoxdotIsFaithful : Type 0
BoxdotIsFaithful = (a : Formula) → Valid Grz a ↔ Valid GL (boxdot a)
