use Rattle.graph_examples.proofs.ListErrorExamples.{bounds-too-great}
use Rattle.graph_examples.proofs.errors.bounds_too_great_fail.Goals as goal

pub returns : goal.returns
returns c = bounds-too-great
