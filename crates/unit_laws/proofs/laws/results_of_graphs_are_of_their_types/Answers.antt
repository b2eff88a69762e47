use Rattle.unit_laws.proofs.TypedRuns.{results-typed}
use Rattle.unit_laws.proofs.laws.results_of_graphs_are_of_their_types.Goals as goal

pub returns : goal.returns
returns c = results-typed
