use Rattle.plan_builder.specs.Outlets.{cells_of}
use Rattle.unit_data.proofs.EachNode.{AreNodesDone}
use Rattle.unit_data.proofs.nodes.nodes_of.Given as goal

abbrev pub invariant-loop-place : goal.invariant-loop-place
invariant-loop-place l =
    AreNodesDone l.unit l.graph l.known.outlets.order l.plain (cells_of l.known.outlets.widths l.known.outlets.order) l.fn.literals l.fn.marks l.place-index l.literals l.marks l.made.nodes l.made.collects
