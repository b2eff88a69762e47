use Rattle.graph_meaning.proofs.Numbers.{found-by-number}
use Rattle.graph_meaning.proofs.laws.graphs_are_found_by_number.Goals as goal

pub returns : goal.returns
returns c = found-by-number
