use Rattle.run_events.proofs.Hands.{hands-kept}
use Rattle.run_events.proofs.hands_laws.hands_are_kept.Goals as goal

pub returns : goal.returns
returns c = hands-kept
