use Rattle.typing_laws.proofs.Cased.{case_typed}
use Rattle.typing_laws.proofs.laws.a_tagcase_is_typed.Goals as goal

pub returns : goal.returns
returns c = case_typed
