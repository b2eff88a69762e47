use Rattle.run_events.proofs.Sums.{sums-kept}
use Rattle.run_events.proofs.leases_laws.sums_are_kept.Goals as goal

pub returns : goal.returns
returns c = sums-kept
