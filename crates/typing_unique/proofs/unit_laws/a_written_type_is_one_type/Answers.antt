use Rattle.typing_unique.proofs.UOne.{one_front}
use Rattle.typing_unique.proofs.unit_laws.a_written_type_is_one_type.Goals as goal

pub returns : goal.returns
returns c = one_front
