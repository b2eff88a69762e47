use Rattle.std.proofs.Common.{◌≡◌, ℕ, ◌<◌, [], get_or}
use Rattle.if1_graph.specs.declared.graph.Node.{Node, out-Node}
use Rattle.mark_check.proofs.lists.has_no_lists.Given as goal

abbrev pub invariant-loop-node : goal.invariant-loop-node
invariant-loop-node l = (k : ℕ) (d : Node) → k < l.node-index → (out-Node (get_or l.nodes k d)).before ≡ []
