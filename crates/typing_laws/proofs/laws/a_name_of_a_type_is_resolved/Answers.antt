use Rattle.typing_laws.proofs.Headed.{array_head}
use Rattle.typing_laws.proofs.laws.a_name_of_a_type_is_resolved.Goals as goal

pub returns : goal.returns
returns c = array_head
