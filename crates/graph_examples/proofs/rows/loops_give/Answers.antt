use Rattle.graph_examples.proofs.RowProofs.{loop-rows}
use Rattle.graph_examples.proofs.rows.loops_give.Goals as goal

pub returns : goal.returns
returns c = loop-rows
