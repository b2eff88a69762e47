use Rattle.graph_examples.proofs.ListErrorExamples.{lists-too-long}
use Rattle.graph_examples.proofs.errors.lists_too_long_fail.Goals as goal

pub returns : goal.returns
returns c = lists-too-long
