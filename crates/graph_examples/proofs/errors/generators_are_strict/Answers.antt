use Rattle.graph_examples.proofs.StrictErrorExamples.{generators-strict}
use Rattle.graph_examples.proofs.errors.generators_are_strict.Goals as goal

pub returns : goal.returns
returns c = generators-strict
