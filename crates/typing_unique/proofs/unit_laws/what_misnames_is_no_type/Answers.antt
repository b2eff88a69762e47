use Rattle.typing_unique.proofs.UOne.{none_in_front}
use Rattle.typing_unique.proofs.unit_laws.what_misnames_is_no_type.Goals as goal

pub returns : goal.returns
returns c = none_in_front
