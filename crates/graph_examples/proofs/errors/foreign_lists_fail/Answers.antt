use Rattle.graph_examples.proofs.ListErrorExamples.{foreign-lists}
use Rattle.graph_examples.proofs.errors.foreign_lists_fail.Goals as goal

pub returns : goal.returns
returns c = foreign-lists
