use Rattle.graph_examples.proofs.GreaterMeans.{main-one-end}
use Rattle.graph_examples.proofs.unit.the_example_has_one_end.Goals as goal

pub returns : goal.returns
returns c = main-one-end
