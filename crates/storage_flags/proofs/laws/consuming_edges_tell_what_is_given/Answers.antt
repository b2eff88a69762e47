use Rattle.storage_flags.proofs.Found.{consumers-tell}
use Rattle.storage_flags.proofs.laws.consuming_edges_tell_what_is_given.Goals as goal

pub returns : goal.returns
returns c = consumers-tell
