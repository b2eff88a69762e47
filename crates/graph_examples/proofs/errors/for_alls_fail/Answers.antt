use Rattle.graph_examples.proofs.CompoundErrorExamples.{for-alls-failing}
use Rattle.graph_examples.proofs.errors.for_alls_fail.Goals as goal

pub returns : goal.returns
returns c = for-alls-failing
