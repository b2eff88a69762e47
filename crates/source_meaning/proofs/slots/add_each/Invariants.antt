use Rattle.std.proofs.Common.{◌≡◌, List, ◌++◌, length}
use Rattle.flow_value.specs.declared.value.Val.{Val}
use Rattle.source_meaning.specs.Slots.{slot_values}
use Rattle.source_meaning.proofs.slots.add_each.Given as goal

abbrev pub invariant-loop-v : goal.invariant-loop-v
invariant-loop-v l = (env : List Val) → slot_values env l.slots ++ l.left ≡ slot_values env l.initial.slots ++ l.fn.values

abbrev pub decreases-loop-v : goal.decreases-loop-v
decreases-loop-v l = length l.left
