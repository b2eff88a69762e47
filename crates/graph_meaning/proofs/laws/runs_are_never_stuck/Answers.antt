use Rattle.graph_meaning.proofs.Theorems.{runs-never-stuck}
use Rattle.graph_meaning.proofs.laws.runs_are_never_stuck.Goals as goal

pub returns : goal.returns
returns c = runs-never-stuck
