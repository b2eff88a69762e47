use Rattle.mean_call.proofs.One.{one_entry, one_reading}
use Rattle.mean_call.proofs.call.one_call.Goals as goal

pub returns : goal.returns
returns c = record { entry = one_entry; arguments = one_reading }
