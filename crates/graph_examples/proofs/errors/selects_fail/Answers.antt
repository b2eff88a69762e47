use Rattle.graph_examples.proofs.CompoundErrorExamples.{selects-failing}
use Rattle.graph_examples.proofs.errors.selects_fail.Goals as goal

pub returns : goal.returns
returns c = selects-failing
