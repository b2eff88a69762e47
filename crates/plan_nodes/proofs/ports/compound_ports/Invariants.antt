use Rattle.std.proofs.Common.{◌≡◌, map, take}
use Rattle.plan_nodes.specs.Ports.{given_port_by}
use Rattle.plan_nodes.proofs.ports.compound_ports.Given as goal

abbrev pub invariant-loop-one : goal.invariant-loop-one
invariant-loop-one l = l.ports ≡ map given_port_by (take l.one-index l.filled)
