use Rattle.worked_units.proofs.ChosenRight.{chosen-worked}
use Rattle.worked_units.proofs.units.the_choice_is_right.Goals as goal

pub returns : goal.returns
returns c = chosen-worked
