use Rattle.lowered_units.proofs.Normality.{is-normal}
use Rattle.lowered_units.proofs.laws.translated_units_are_normal.Goals as goal

pub returns : goal.returns
returns c = λ p u fit t. is-normal p u fit t
