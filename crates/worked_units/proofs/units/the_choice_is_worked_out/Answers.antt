use Rattle.worked_units.proofs.ChosenMeans.{chosen-answered}
use Rattle.worked_units.proofs.units.the_choice_is_worked_out.Goals as goal

pub returns : goal.returns
returns c = chosen-answered
