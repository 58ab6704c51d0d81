use Rattle.std.proofs.Common.{◌++◌, ◌∷◌, [], ap, refl, ◌∙◌}
use Rattle.lw_sat.specs.SeedPath.{spot_of}
use Rattle.lw_search.specs.declared.level.Level.{Level}
use Rattle.lw_search.proofs.NextStates.{descended, label_items}
use Rattle.lw_search.proofs.StepSeeds.{inner_below}
use Rattle.lw_search.proofs.tableau.Tableau.descend.Goals as goal

pub plant-requires-clause-items : goal.plant-requires-clause-items
plant-requires-clause-items g c = label_items _ _ _ c.args.search.now.level c.requires.serving.1.serves.at

pub plant-requires-clause-inner : goal.plant-requires-clause-inner
plant-requires-clause-inner g c =
    let h = c.requires.serving.1 in
    let asked = c.requires.asked in
    inner_below _ h.guides.table _ _ (label_items _ _ _ c.args.search.now.level h.serves.at _ asked.there) asked.steps

pub returns : goal.returns
returns g c aim h =
    let s = c.args.search.now in
    let was = c.replace-level.ensures in
    let planted = c.in_ok-board.ensures in
    descended _ aim s h _ c.requires.asked c.requires.far (record { below = c.push.new.self; level = c.replace-level.new.dest; fragment = s.fragment })
    (c.in_ok-push.ensures.items ∙ ap (λ (l : Level). s.below.items ++ l ∷ []) was.value) (ap (λ (l : Level). l.frames.items) was.after ∙ c.new.ensures.items) (ap (λ (l : Level). l.parent) was.after) refl
    (rw was.after planted.wide) (ap (λ (l : Level). spot_of l.board) was.after ∙ planted.spot) (rw was.after planted.room)
