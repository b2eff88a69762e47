use Rattle.graph_examples.proofs.GreaterMeans.{main-right}
use Rattle.graph_examples.proofs.unit.the_example_gives_the_greater.Goals as goal

pub returns : goal.returns
returns c = main-right
