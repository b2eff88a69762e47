use Rattle.std.proofs.Common.{◌≡◌, suc, drop}
use Rattle.if1_ports.specs.Counts.{are_counted}
use Rattle.if1_ports.specs.Fed.{ports_of}
use Rattle.if1_ports.proofs.fed.are_counted.Given as goal

abbrev pub invariant-loop-edge : goal.invariant-loop-edge
invariant-loop-edge l = (l.count ≡ l.edge-index) × (are_counted (suc l.count) (ports_of (drop l.edge-index l.edges)) ≡ are_counted 1 (ports_of l.edges))
