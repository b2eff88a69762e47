use Rattle.unit_whole.proofs.Whole.{codes-entered}
use Rattle.unit_whole.proofs.whole_laws.code_of_units_can_be_entered.Goals as goal

pub returns : goal.returns
returns c = codes-entered
