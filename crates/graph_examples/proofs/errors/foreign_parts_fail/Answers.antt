use Rattle.graph_examples.proofs.CompoundErrorExamples.{foreign-parts}
use Rattle.graph_examples.proofs.errors.foreign_parts_fail.Goals as goal

pub returns : goal.returns
returns c = foreign-parts
