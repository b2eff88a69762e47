use Rattle.graph_examples.proofs.CompoundErrorExamples.{loops-failing}
use Rattle.graph_examples.proofs.errors.loops_fail.Goals as goal

pub returns : goal.returns
returns c = loops-failing
