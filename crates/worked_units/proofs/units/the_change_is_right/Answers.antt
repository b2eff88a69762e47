use Rattle.worked_units.proofs.ChangedRight.{changed-worked}
use Rattle.worked_units.proofs.units.the_change_is_right.Goals as goal

pub returns : goal.returns
returns c = changed-worked
