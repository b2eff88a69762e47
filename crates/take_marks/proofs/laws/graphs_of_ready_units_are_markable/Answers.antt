use Rattle.take_marks.proofs.Shapes.{graphs-markable}
use Rattle.take_marks.proofs.laws.graphs_of_ready_units_are_markable.Goals as goal

pub returns : goal.returns
returns c = graphs-markable
