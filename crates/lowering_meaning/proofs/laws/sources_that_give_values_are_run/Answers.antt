use Rattle.lowering_meaning.proofs.Runs.{runs-meant}
use Rattle.lowering_meaning.proofs.laws.sources_that_give_values_are_run.Goals as goal

pub returns : goal.returns
returns c = runs-meant
