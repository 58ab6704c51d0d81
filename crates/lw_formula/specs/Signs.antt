-- The two signs of signed formulas (Smullyan, First-Order Logic, chapter II).
use Rattle.lw_formula.specs.declared.sign.Sign.{Sign}
use Rattle.lw_formula.specs.declared.sign.Sign.TheVariants.{T, F}

-- the other sign
abbrev pub opposite : Sign → Sign
opposite T = F
opposite F = T
