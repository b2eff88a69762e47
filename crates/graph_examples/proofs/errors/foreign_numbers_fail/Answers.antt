use Rattle.graph_examples.proofs.NumberErrorExamples.{foreign-numbers}
use Rattle.graph_examples.proofs.errors.foreign_numbers_fail.Goals as goal

pub returns : goal.returns
returns c = foreign-numbers
