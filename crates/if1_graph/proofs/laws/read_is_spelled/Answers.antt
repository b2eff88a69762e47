use Rattle.if1_graph.proofs.ReadSpelled.{read_spelled}
use Rattle.if1_graph.proofs.laws.read_is_spelled.Goals as goal

pub returns : goal.returns
returns c s l e = read_spelled s l e
