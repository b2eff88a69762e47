use Rattle.std.proofs.Common.{◌≡◌, map, take}
use Rattle.plan_nodes.specs.Ports.{port_by}
use Rattle.plan_nodes.proofs.ports.simple_ports.Given as goal

abbrev pub invariant-loop-one : goal.invariant-loop-one
invariant-loop-one l = l.ports ≡ map port_by (take l.one-index l.filled)
