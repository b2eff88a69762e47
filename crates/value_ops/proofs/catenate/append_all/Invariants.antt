use Rattle.std.proofs.Common.{◌≡◌, ◌++◌, map, length}
use Rattle.std.specs.List.{flat_map}
use Rattle.std.specs.Vec.Iter.{into_iter_items}
use Rattle.value_ops.specs.Catenation.{items_in}
use Rattle.value_ops.specs.Operand.{value_of}
use Rattle.value_ops.proofs.catenate.append_all.Given as goal

abbrev pub invariant-loop-one : goal.invariant-loop-one
invariant-loop-one l =
    l.joined ++ flat_map (items_in l.joining) (map value_of (into_iter_items l.values))
    ≡ l.fn.items ++ flat_map (items_in l.joining) (map value_of l.fn.rest.items)

abbrev pub decreases-loop-one : goal.decreases-loop-one
decreases-loop-one l = length (into_iter_items l.values)
