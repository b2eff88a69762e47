use Rattle.lowered_units.proofs.NestedTrees.{is-nested}
use Rattle.lowered_units.proofs.Running.{runs-as-lowered}
use Rattle.lowered_units.proofs.laws.translated_units_run_as_lowered.Goals as goal

pub returns : goal.returns
returns c = λ p u fit t q d h. runs-as-lowered p u fit t (is-nested p u fit t) q d h
