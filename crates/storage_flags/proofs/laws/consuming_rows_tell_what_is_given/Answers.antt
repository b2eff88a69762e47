use Rattle.storage_flags.proofs.Found.{consumer-rows}
use Rattle.storage_flags.proofs.laws.consuming_rows_tell_what_is_given.Goals as goal

pub returns : goal.returns
returns c = consumer-rows
