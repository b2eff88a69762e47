use Rattle.graph_examples.proofs.StrictErrorExamples.{errors-passed}
use Rattle.graph_examples.proofs.errors.errors_are_passed.Goals as goal

pub returns : goal.returns
returns c = errors-passed
