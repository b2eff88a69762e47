use Rattle.lowered_units.proofs.Filled.{have-members}
use Rattle.lowered_units.proofs.Formed.{is-formed}
use Rattle.lowered_units.proofs.NestedTrees.{is-nested}
use Rattle.lowered_units.proofs.Normality.{is-normal}
use Rattle.lowered_units.proofs.laws.translated_units_are_formed.Goals as goal

pub returns : goal.returns
returns c = λ p u fit few t. (is-formed p fit (have-members p.types fit.types) u t few (is-nested p u fit t), is-normal p u fit t)
