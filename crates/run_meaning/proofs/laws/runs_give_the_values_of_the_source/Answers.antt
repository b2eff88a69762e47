use Rattle.run_meaning.proofs.Sourced.{runs-of-sources}
use Rattle.run_meaning.proofs.laws.runs_give_the_values_of_the_source.Goals as goal

pub returns : goal.returns
returns c = runs-of-sources
