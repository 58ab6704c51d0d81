-- The meaning of `gen`: which output and which status a number allows.
use Rattle.std.specs.Prelude.{◌≡◌, ℕ, List, [], ◌∷◌, ◌++◌, codes}
use Rattle.std.specs.Fmt.{decimal}
use Rattle.lw_gen.specs.declared.counts.Summary.{Summary}
use Rattle.lw_gen.specs.Counts.{IsSummary}

-- the line of the counts, with its line feed: so many questions were asked, and so many have yes and no for an answer
abbrev pub summary_line : Summary → List ℕ
summary_line s = codes "asked " ++ (decimal s.asked ++ (codes " yes " ++ (decimal s.yes ++ (codes " no " ++ (decimal s.no ++ 10 ∷ [])))))

-- for this number `gen` allows this output and this status
pub record GenOutcome (n : ℕ) (out : List ℕ) (status : ℕ) : Type 0 where
  pub summary : Summary
  pub counts : IsSummary n summary
  pub line : out ≡ summary_line summary
  pub ending : status ≡ 0
