use Rattle.typing_laws.proofs.Cased.{an_arm_added}
use Rattle.typing_laws.proofs.laws.an_arm_is_typed.Goals as goal

pub returns : goal.returns
returns c = an_arm_added
