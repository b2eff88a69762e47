use Rattle.graph_examples.proofs.StrictErrorExamples.{folds-strict}
use Rattle.graph_examples.proofs.errors.folds_are_strict.Goals as goal

pub returns : goal.returns
returns c = folds-strict
