use Rattle.run_code.proofs.Collecting.{copies-put}
use Rattle.run_code.proofs.laws.copies_are_what_is_put.Goals as goal

pub returns : goal.returns
returns c = copies-put
