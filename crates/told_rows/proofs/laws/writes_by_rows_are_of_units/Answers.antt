use Rattle.told_rows.proofs.Told.{writes-told}
use Rattle.told_rows.proofs.laws.writes_by_rows_are_of_units.Goals as goal

pub returns : goal.returns
returns c = writes-told
