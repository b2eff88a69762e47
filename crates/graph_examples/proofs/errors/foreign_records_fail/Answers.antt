use Rattle.graph_examples.proofs.ListErrorExamples.{foreign-records}
use Rattle.graph_examples.proofs.errors.foreign_records_fail.Goals as goal

pub returns : goal.returns
returns c = foreign-records
