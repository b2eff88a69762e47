use Rattle.loop_columns.proofs.Collected.{are-collected}
use Rattle.loop_columns.proofs.laws.clauses_are_collected_at_their_places.Goals as goal

pub returns : goal.returns
returns c = are-collected
