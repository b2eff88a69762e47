use Rattle.run_events.proofs.Hands.{hands-begin}
use Rattle.run_events.proofs.hands_laws.hands_begin_empty.Goals as goal

pub returns : goal.returns
returns c = hands-begin
