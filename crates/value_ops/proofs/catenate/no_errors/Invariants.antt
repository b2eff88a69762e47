use Rattle.std.proofs.Common.{◌≡◌, drop, map}
use Rattle.flow_value.specs.declared.value.Val.{Val}
use Rattle.value_ops.specs.Arity.{unless_errors}
use Rattle.value_ops.specs.Operand.{value_of}
use Rattle.value_ops.proofs.catenate.no_errors.Given as goal

abbrev pub invariant-loop-one : goal.invariant-loop-one
invariant-loop-one l =
    (w : Val) → unless_errors (map value_of l.values) w ≡ unless_errors (map value_of (drop l.one-index l.values)) w
