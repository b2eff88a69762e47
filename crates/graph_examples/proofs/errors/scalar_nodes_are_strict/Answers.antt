use Rattle.graph_examples.proofs.StrictErrorExamples.{scalars-strict}
use Rattle.graph_examples.proofs.errors.scalar_nodes_are_strict.Goals as goal

pub returns : goal.returns
returns c = scalars-strict
