use Rattle.loop_columns.proofs.FoldNodes.{fold-nodes}
use Rattle.loop_columns.proofs.laws.nodes_fold_multiples.Goals as goal

pub returns : goal.returns
returns c = fold-nodes
