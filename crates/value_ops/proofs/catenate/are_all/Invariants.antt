use Rattle.std.proofs.Common.{◌≡◌, drop, map}
use Rattle.std.specs.Option.{is_some}
use Rattle.value_ops.specs.Catenation.{all_in}
use Rattle.value_ops.specs.Operand.{value_of}
use Rattle.value_ops.proofs.catenate.are_all.Given as goal

abbrev pub invariant-loop-one : goal.invariant-loop-one
invariant-loop-one l =
    is_some (all_in l.joining (map value_of l.values)) ≡ is_some (all_in l.joining (map value_of (drop l.one-index l.values)))
