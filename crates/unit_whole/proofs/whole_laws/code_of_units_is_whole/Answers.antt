use Rattle.unit_whole.proofs.Whole.{codes-whole}
use Rattle.unit_whole.proofs.whole_laws.code_of_units_is_whole.Goals as goal

pub returns : goal.returns
returns c = codes-whole
