use Rattle.std.proofs.Common.{◌≡◌, map, take}
use Rattle.plan_nodes.specs.Ports.{port_by}
use Rattle.unit_data.proofs.graphs.results_of.Given as goal

abbrev pub invariant-loop-port : goal.invariant-loop-port
invariant-loop-port l = l.results ≡ map port_by (take l.port-index l.ports)
