use Rattle.typed_rows.proofs.Folds.{folds_well}
use Rattle.typed_rows.proofs.laws.folds_give_values_of_their_types.Goals as goal

pub returns : goal.returns
returns c = folds_well
