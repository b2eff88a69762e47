use Rattle.graph_examples.proofs.RowProofs.{record-rows}
use Rattle.graph_examples.proofs.rows.record_rows_give.Goals as goal

pub returns : goal.returns
returns c = record-rows
