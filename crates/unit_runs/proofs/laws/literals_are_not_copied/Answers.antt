use Rattle.unit_runs.proofs.Uncopied.{made-bare}
use Rattle.unit_runs.proofs.laws.literals_are_not_copied.Goals as goal

pub returns : goal.returns
returns c = made-bare
