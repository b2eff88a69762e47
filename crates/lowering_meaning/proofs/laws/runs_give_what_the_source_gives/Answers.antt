use Rattle.lowering_meaning.proofs.Runs.{runs-sourced}
use Rattle.lowering_meaning.proofs.laws.runs_give_what_the_source_gives.Goals as goal

pub returns : goal.returns
returns c = runs-sourced
