use Rattle.std.proofs.Common.{◌≡◌, drop}
use Rattle.value_ops.specs.Given.{values_in}
use Rattle.place_ops.proofs.operands.next.Given as goal

abbrev pub invariant-loop-port : goal.invariant-loop-port
invariant-loop-port l = values_in (drop l.port l.ins) ≡ values_in (drop l.fn.from l.fn.ins)
