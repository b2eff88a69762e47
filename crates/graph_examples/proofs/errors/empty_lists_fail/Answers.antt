use Rattle.graph_examples.proofs.ListErrorExamples.{lists-empty}
use Rattle.graph_examples.proofs.errors.empty_lists_fail.Goals as goal

pub returns : goal.returns
returns c = lists-empty
