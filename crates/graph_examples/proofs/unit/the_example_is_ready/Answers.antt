use Rattle.graph_examples.proofs.GreaterMeans.{unit-right}
use Rattle.graph_examples.proofs.unit.the_example_is_ready.Goals as goal

pub returns : goal.returns
returns c = unit-right
