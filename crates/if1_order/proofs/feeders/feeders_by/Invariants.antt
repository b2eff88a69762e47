use Rattle.std.proofs.Common.{take}
use Rattle.if1_order.specs.Feeders.{AreFeeders}
use Rattle.if1_order.proofs.feeders.feeders_by.Given as goal

abbrev pub invariant-loop-edge : goal.invariant-loop-edge
invariant-loop-edge l = AreFeeders l.labels (take l.edge-index l.edges) l.lists.items
