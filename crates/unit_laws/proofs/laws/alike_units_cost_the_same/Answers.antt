use Rattle.unit_laws.proofs.AlikeRuns.{alike-costed}
use Rattle.unit_laws.proofs.laws.alike_units_cost_the_same.Goals as goal

pub returns : goal.returns
returns c = alike-costed
