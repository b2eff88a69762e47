use Rattle.graph_examples.proofs.RowProofs.{fold-rows}
use Rattle.graph_examples.proofs.rows.fold_rows_give.Goals as goal

pub returns : goal.returns
returns c = fold-rows
