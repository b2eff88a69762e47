use Rattle.graph_examples.proofs.FoldErrorExamples.{generators-spoiled}
use Rattle.graph_examples.proofs.errors.generators_fail.Goals as goal

pub returns : goal.returns
returns c = generators-spoiled
