-- The law of histories.
use Rattle.std.specs.Prelude.{◌≡◌, ℕ, ◌⊎◌, IsTrue, Contains, List}
use Rattle.lw_formula.specs.declared.parts.Parts.TheVariants.{Pi}
use Rattle.lw_proof.specs.System.{Set}
use Rattle.lw_closure.specs.Table.{Table, entry_at, IsTable}
use Rattle.lw_counter.specs.FragmentPaths.{has_links}
use Rattle.lw_search.specs.Ranked.{Past, LeadsTo, IsServedBy}
use Rattle.lw_s4.specs.History.{history}

-- in S4 and K4, where links count as edges, a link to the label's own world or to one of the path serves each π of the label's history
abbrev pub HistoryServes : Type 0
HistoryServes =
    (t : Table) (path : List Past) (X : Set ℕ) (item c : ℕ) → IsTable t → IsTrue (has_links t.logic) → LeadsTo t path X →
    IsTrue (history t path X item) → (entry_at t item).parts ≡ Pi c →
    IsServedBy t X X c ⊎ ((p : Past) × Contains path p × IsServedBy t X p.label c)
