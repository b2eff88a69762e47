use Rattle.graph_examples.proofs.ScalarErrorExamples.{scalar-errors}
use Rattle.graph_examples.proofs.errors.scalar_nodes_fail.Goals as goal

pub returns : goal.returns
returns c = scalar-errors
