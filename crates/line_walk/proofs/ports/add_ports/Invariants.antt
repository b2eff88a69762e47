use Rattle.std.proofs.Common.{◌≡◌, drop}
use Rattle.line_labels.specs.Needs.{added}
use Rattle.line_walk.specs.Met.{carried_ports}
use Rattle.line_walk.proofs.ports.add_ports.Given as goal

abbrev pub invariant-loop-port : goal.invariant-loop-port
invariant-loop-port l = added l.needs (carried_ports (drop l.port-index l.ports)) ≡ added l.fn.needs (carried_ports l.ports)
