use Rattle.if1_read.proofs.Unfaulty.{accepted}
use Rattle.if1_read.proofs.laws.accepted_has_no_fault.Goals as goal

pub returns : goal.returns
returns c = accepted
