use Rattle.unit_runs.proofs.Graphs.{graphs-bare}
use Rattle.unit_runs.proofs.laws.plans_of_units_copy_no_literal.Goals as goal

pub returns : goal.returns
returns c = graphs-bare
