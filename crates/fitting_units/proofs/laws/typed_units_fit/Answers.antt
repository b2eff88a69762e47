use Rattle.fitting_units.proofs.Programs.{units_fit}
use Rattle.fitting_units.proofs.laws.typed_units_fit.Goals as goal

pub returns : goal.returns
returns c = units_fit
