use Rattle.graph_examples.proofs.ScalarErrorExamples.{foreign-scalars}
use Rattle.graph_examples.proofs.errors.foreign_scalars_fail.Goals as goal

pub returns : goal.returns
returns c = foreign-scalars
