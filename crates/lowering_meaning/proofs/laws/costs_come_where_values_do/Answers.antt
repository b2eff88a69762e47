use Rattle.lowering_meaning.proofs.Theorem.{costs-there}
use Rattle.lowering_meaning.proofs.laws.costs_come_where_values_do.Goals as goal

pub returns : goal.returns
returns c = costs-there
