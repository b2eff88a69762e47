use Rattle.plan_nodes.proofs.Made.{nothing-is}
use Rattle.plan_nodes.proofs.laws.nothing_is_made_of_no_vertices.Goals as goal

pub returns : goal.returns
returns c = nothing-is
