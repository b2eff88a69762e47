use Rattle.std.proofs.Common.{◌∙◌, ◌++◌, ◌∷◌, [], List, Option, None, ap}
use Rattle.lowering.specs.declared.feed.Carried.{Carried}
use Rattle.line_walk.proofs.Tables.{nothing_more}
use Rattle.line_walk.proofs.ports.absents.Goals as goal

pub loop-place-preserved : goal.loop-place-preserved
loop-place-preserved c = c.in_ok-add.ensures.ok ∙ ap (λ (l : List (Option Carried)). l ++ None ∷ []) c.loop-place.invariant ∙ nothing_more c.loop-place.place
