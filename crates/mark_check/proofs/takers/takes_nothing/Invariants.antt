use Rattle.std.proofs.Common.{◌≡◌, ℕ, ◌<◌, false, get_or}
use Rattle.if1_graph.specs.declared.graph.Edge.{Edge}
use Rattle.mark_check.proofs.takers.takes_nothing.Given as goal

abbrev pub invariant-loop-edge : goal.invariant-loop-edge
invariant-loop-edge l = (k : ℕ) (d : Edge) → k < l.edge-index → (get_or l.edges k d).takes ≡ false
