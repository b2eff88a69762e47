use Rattle.std.proofs.Common.{◌≡◌, drop}
use Rattle.lowering.specs.Feeds.{outsides, distinct}
use Rattle.lowering.specs.Graphs.{used}
use Rattle.lowered_data.proofs.keys.Keys.add_nodes.Given as goal

-- what is added with what is still to be added is all
abbrev pub invariant-loop-node : goal.invariant-loop-node
invariant-loop-node l = distinct l.self (outsides (used (drop l.node-index l.nodes))) ≡ distinct l.fn.self (outsides (used l.nodes))
