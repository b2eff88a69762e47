use Rattle.graph_examples.proofs.FoldErrorExamples.{foreign-elements}
use Rattle.graph_examples.proofs.errors.foreign_elements_fail.Goals as goal

pub returns : goal.returns
returns c = foreign-elements
