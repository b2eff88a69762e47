use Rattle.run_states.proofs.Moving.{stores-begin}
use Rattle.run_states.proofs.laws.stores_begin.Goals as goal

pub returns : goal.returns
returns c = stores-begin
