use Rattle.typed_values.proofs.Runs.{runs_right}
use Rattle.typed_values.proofs.laws.runs_meet_what_they_take.Goals as goal

pub returns : goal.returns
returns c = runs_right
