-- The lengths of texts, as the printer measures them before it writes.
use Rattle.std.specs.Prelude.{◌≡◌, ℕ, length, min}
use Rattle.lw_formula.specs.Formula.{Formula}
use Rattle.lw_read.specs.declared.measure.Measure.{Measure}
use Rattle.lw_read.specs.Text.{text_of, tightness}

-- the measure of a formula, where a length over `most` counts as it
abbrev pub IsMeasure : ℕ → Formula → Measure → Type 0
IsMeasure most a m = (m.length ≡ min (length (text_of a)) most) × (m.tightness ≡ tightness a)
