use Rattle.std.proofs.Common.{◌≡◌, drop}
use Rattle.if1_ports.specs.Counts.{are_rising}
use Rattle.if1_ports.specs.Fed.{ports_of}
use Rattle.if1_ports.proofs.fed.are_rising.Given as goal

abbrev pub invariant-loop-edge : goal.invariant-loop-edge
invariant-loop-edge l = are_rising l.least (ports_of (drop l.edge-index l.edges)) ≡ are_rising 0 (ports_of l.edges)
