use Rattle.graph_examples.proofs.RowProofs.{scalar-rows}
use Rattle.graph_examples.proofs.rows.scalar_rows_give.Goals as goal

pub returns : goal.returns
returns c = scalar-rows
