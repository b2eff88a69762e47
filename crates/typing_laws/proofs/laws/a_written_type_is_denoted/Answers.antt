use Rattle.typing_laws.proofs.Later.{written_type}
use Rattle.typing_laws.proofs.laws.a_written_type_is_denoted.Goals as goal

pub returns : goal.returns
returns c = written_type
