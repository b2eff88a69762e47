use Rattle.made_store.proofs.Units.{made-stored}
use Rattle.made_store.proofs.laws.code_that_is_made_is_stored_code.Goals as goal

pub returns : goal.returns
returns c = made-stored
