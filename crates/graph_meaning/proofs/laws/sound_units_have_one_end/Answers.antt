use Rattle.graph_meaning.proofs.StorageUnits.{sound-one-end}
use Rattle.graph_meaning.proofs.laws.sound_units_have_one_end.Goals as goal

pub returns : goal.returns
returns c = sound-one-end
