use Rattle.made_store.proofs.Functions.{set-stored}
use Rattle.made_store.proofs.laws.code_that_is_set_is_stored_code.Goals as goal

pub returns : goal.returns
returns c = set-stored
