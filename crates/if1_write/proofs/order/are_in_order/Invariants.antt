use Rattle.std.proofs.Common.{ℕ, ◌+◌, ◌<◌, ◌≤◌, get_or}
use Rattle.if1_graph.specs.declared.graph.Edge.{Edge}
use Rattle.if1_write.specs.Texts.{rank_of}
use Rattle.if1_write.proofs.order.are_in_order.Given as goal

abbrev pub invariant-loop-i : goal.invariant-loop-i
invariant-loop-i l = (k : ℕ) (d : Edge) → k + 1 < l.i → rank_of (get_or l.edges k d) ≤ rank_of (get_or l.edges (k + 1) d)
