use Rattle.storage_flags.proofs.Found.{marks-tell}
use Rattle.storage_flags.proofs.laws.marks_tell_what_is_taken.Goals as goal

pub returns : goal.returns
returns c = marks-tell
