use Rattle.graph_examples.proofs.FoldErrorExamples.{gathers-failing}
use Rattle.graph_examples.proofs.errors.gathers_fail.Goals as goal

pub returns : goal.returns
returns c = gathers-failing
