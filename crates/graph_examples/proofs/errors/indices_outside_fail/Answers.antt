use Rattle.graph_examples.proofs.ListErrorExamples.{indices-outside}
use Rattle.graph_examples.proofs.errors.indices_outside_fail.Goals as goal

pub returns : goal.returns
returns c = indices-outside
