use Rattle.std.proofs.Common.{◌≡◌, drop}
use Rattle.if1_ports.specs.Fed.{first_of}
use Rattle.node_works.proofs.into.first_of.Given as goal

abbrev pub invariant-loop-edge : goal.invariant-loop-edge
invariant-loop-edge l = first_of (drop l.edge-index l.edges) ≡ first_of l.edges
