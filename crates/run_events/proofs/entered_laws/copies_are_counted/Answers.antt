use Rattle.run_events.proofs.Modes.{copies-counted}
use Rattle.run_events.proofs.entered_laws.copies_are_counted.Goals as goal

pub returns : goal.returns
returns c = copies-counted
