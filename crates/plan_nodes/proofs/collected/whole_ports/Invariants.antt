use Rattle.std.proofs.Common.{◌≡◌, ◌++◌, drop}
use Rattle.plan_nodes.specs.Ports.{whole_ports}
use Rattle.plan_nodes.proofs.collected.whole_ports.Given as goal

abbrev pub invariant-loop-one : goal.invariant-loop-one
invariant-loop-one l = l.ports ++ whole_ports l.plain l.next (drop l.one-index l.filled) ≡ whole_ports l.plain l.initial.next l.filled
