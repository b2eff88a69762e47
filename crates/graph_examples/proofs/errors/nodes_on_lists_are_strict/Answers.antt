use Rattle.graph_examples.proofs.StrictErrorExamples.{lists-strict}
use Rattle.graph_examples.proofs.errors.nodes_on_lists_are_strict.Goals as goal

pub returns : goal.returns
returns c = lists-strict
