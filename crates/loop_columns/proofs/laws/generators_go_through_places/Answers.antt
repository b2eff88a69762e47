use Rattle.loop_columns.proofs.Generators.{do-go-through}
use Rattle.loop_columns.proofs.laws.generators_go_through_places.Goals as goal

pub returns : goal.returns
returns c = do-go-through
