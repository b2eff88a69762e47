use Rattle.std.proofs.Common.{◌≡◌, take, map, length, min}
use Rattle.std.specs.List.{flat_map}
use Rattle.value_ops.specs.Catenation.{items_in}
use Rattle.value_ops.specs.Operand.{value_of}
use Rattle.value_ops.proofs.catenate.count_all.Given as goal

abbrev pub invariant-loop-one : goal.invariant-loop-one
invariant-loop-one l =
    l.sum ≡ min (length (flat_map (items_in l.joining) (map value_of (take l.one-index l.values)))) 18446744073709551615
