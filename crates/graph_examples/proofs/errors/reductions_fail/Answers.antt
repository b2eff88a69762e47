use Rattle.graph_examples.proofs.FoldErrorExamples.{reductions-failing}
use Rattle.graph_examples.proofs.errors.reductions_fail.Goals as goal

pub returns : goal.returns
returns c = reductions-failing
