use Rattle.unit_orders.proofs.Numbered.{graphs-numbered}
use Rattle.unit_orders.proofs.laws.graphs_stand_by_their_numbers.Goals as goal

pub returns : goal.returns
returns c = graphs-numbered
