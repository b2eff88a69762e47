use Rattle.lowered_ready.proofs.Told.{read-back}
use Rattle.lowered_ready.proofs.sort_laws.types_are_read_back.Goals as goal

pub returns : goal.returns
returns c = λ p u fit t. read-back p fit u t
