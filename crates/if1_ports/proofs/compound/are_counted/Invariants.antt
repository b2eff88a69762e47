use Rattle.std.proofs.Common.{◌≡◌, drop}
use Rattle.if1_ports.specs.Counts.{are_counted}
use Rattle.if1_ports.proofs.compound.are_counted.Given as goal

abbrev pub invariant-loop-arm : goal.invariant-loop-arm
invariant-loop-arm l = (l.count ≡ l.arm-index) × (are_counted l.count (drop l.arm-index l.list) ≡ are_counted 0 l.list)
