use Rattle.graph_examples.proofs.FoldErrorExamples.{elements-failing}
use Rattle.graph_examples.proofs.errors.elements_fail.Goals as goal

pub returns : goal.returns
returns c = elements-failing
