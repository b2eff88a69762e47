use Rattle.run_made.proofs.Making.{made}
use Rattle.run_made.proofs.laws.code_that_is_made_does_its_graphs.Goals as goal

pub returns : goal.returns
returns c = made
