use Rattle.std.proofs.Common.{◌≡◌}
use Rattle.graph_meaning.specs.NodeValues.{rising}
use Rattle.node_ops.proofs.generators.rising_from.Given as goal

abbrev pub invariant-loop-place : goal.invariant-loop-place
invariant-loop-place l = l.items ≡ rising l.lo l.place
