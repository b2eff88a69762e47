use Rattle.worked_units.proofs.ChangedMeans.{changed-answered}
use Rattle.worked_units.proofs.units.the_change_is_worked_out.Goals as goal

pub returns : goal.returns
returns c = changed-answered
