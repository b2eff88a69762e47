use Rattle.std.proofs.Common.{◌≡◌, ◌+◌, drop}
use Rattle.plan_data.specs.Parts.{nodes_steps}
use Rattle.plan_tables.specs.Above.{tabled}
use Rattle.plan_tables.proofs.sizes.nodes_total.Given as goal

abbrev pub invariant-loop-node : goal.invariant-loop-node
invariant-loop-node l = l.steps + nodes_steps (tabled l.graphs l.sizes) (drop l.node-index l.nodes) ≡ nodes_steps (tabled l.graphs l.sizes) l.nodes
