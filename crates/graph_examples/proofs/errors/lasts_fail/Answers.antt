use Rattle.graph_examples.proofs.FoldErrorExamples.{lasts-failing}
use Rattle.graph_examples.proofs.errors.lasts_fail.Goals as goal

pub returns : goal.returns
returns c = lasts-failing
