use Rattle.run_code.proofs.Collecting.{made-of-columns}
use Rattle.run_code.proofs.laws.collections_are_of_columns.Goals as goal

pub returns : goal.returns
returns c = made-of-columns
