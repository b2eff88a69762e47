use Rattle.run_events.proofs.Unleased.{unowned-not-leased}
use Rattle.run_events.proofs.hands_laws.unowned_keys_are_not_leased.Goals as goal

pub returns : goal.returns
returns c = unowned-not-leased
