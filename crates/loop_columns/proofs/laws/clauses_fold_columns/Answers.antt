use Rattle.loop_columns.proofs.Clauses.{folded-by-columns}
use Rattle.loop_columns.proofs.laws.clauses_fold_columns.Goals as goal

pub returns : goal.returns
returns c = folded-by-columns
