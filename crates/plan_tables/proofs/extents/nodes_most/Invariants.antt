use Rattle.std.proofs.Common.{◌≡◌, ◌+◌, max, drop}
use Rattle.plan_data.specs.Parts.{nodes_cells}
use Rattle.plan_tables.specs.Above.{roomed}
use Rattle.plan_tables.proofs.extents.nodes_most.Given as goal

abbrev pub invariant-loop-node : goal.invariant-loop-node
invariant-loop-node l = max l.most (l.outputs + nodes_cells (roomed l.graphs l.extents) (drop l.node-index l.nodes)) ≡ nodes_cells (roomed l.graphs l.extents) l.nodes
