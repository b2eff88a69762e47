use Rattle.run_made.proofs.Making.{lines-lie}
use Rattle.run_made.proofs.laws.lines_that_are_made_lie.Goals as goal

pub returns : goal.returns
returns c = lines-lie
