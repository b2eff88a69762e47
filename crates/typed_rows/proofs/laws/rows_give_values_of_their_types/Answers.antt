use Rattle.typed_rows.proofs.Rows.{row_well}
use Rattle.typed_rows.proofs.laws.rows_give_values_of_their_types.Goals as goal

pub returns : goal.returns
returns c = row_well
