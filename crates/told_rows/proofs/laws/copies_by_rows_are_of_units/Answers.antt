use Rattle.told_rows.proofs.Told.{copies-told}
use Rattle.told_rows.proofs.laws.copies_by_rows_are_of_units.Goals as goal

pub returns : goal.returns
returns c = copies-told
