use Rattle.graph_examples.proofs.RowProofs.{list-rows}
use Rattle.graph_examples.proofs.rows.list_rows_give.Goals as goal

pub returns : goal.returns
returns c = list-rows
