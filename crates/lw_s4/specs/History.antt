-- The history of a label (Heuerding, Seyfried and Zimmermann, Efficient loop-check for backward proof search in some non-classical
-- propositional logics).
use Rattle.std.specs.Prelude.{ℕ, Bool, false, not, ◌&&◌, ◌||◌, nat_eq, List, [], ◌∷◌}
use Rattle.lw_proof.specs.System.{Set}
use Rattle.lw_proof.specs.Derivation.{is_nu}
use Rattle.lw_closure.specs.Table.{Table, entry_at, item_count}
use Rattle.lw_closure.specs.Items.{any_below}
use Rattle.lw_search.specs.Ranked.{Past}

-- whether the label X has a ν that the label Y lacks
abbrev pub has_more_nus : Table → Set ℕ → Set ℕ → Bool
has_more_nus t X Y = any_below (λ i. is_nu (entry_at t i).parts && (X i && not (Y i))) (item_count t)

-- the history of the label X, to which the path leads: the π stepped on along the path since a label last had a ν that the one before
-- lacks. A step keeps the ν, so since then the labels have the same ones
abbrev pub history : Table → List Past → Set ℕ → Set ℕ
history t [] X i = false
history t (p ∷ path) X i = not (has_more_nus t X p.label) && (nat_eq p.item i || history t path p.label i)
