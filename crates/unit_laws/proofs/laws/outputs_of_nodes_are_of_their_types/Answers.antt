use Rattle.unit_laws.proofs.TypedRuns.{nodes-typed}
use Rattle.unit_laws.proofs.laws.outputs_of_nodes_are_of_their_types.Goals as goal

pub returns : goal.returns
returns c = nodes-typed
