use Rattle.graph_examples.proofs.StrictErrorExamples.{records-strict}
use Rattle.graph_examples.proofs.errors.nodes_on_records_are_strict.Goals as goal

pub returns : goal.returns
returns c = records-strict
