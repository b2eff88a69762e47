use Rattle.storage_flags.proofs.Found.{rows-stand}
use Rattle.storage_flags.proofs.laws.rows_stand_by_numbers.Goals as goal

pub returns : goal.returns
returns c = rows-stand
