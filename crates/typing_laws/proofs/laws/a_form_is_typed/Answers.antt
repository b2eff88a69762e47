use Rattle.typing_laws.proofs.Formed.{form_typed}
use Rattle.typing_laws.proofs.laws.a_form_is_typed.Goals as goal

pub returns : goal.returns
returns c = form_typed
