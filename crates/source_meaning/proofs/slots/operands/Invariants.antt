use Rattle.std.proofs.Common.{◌≡◌}
use Rattle.std.specs.Vec.Iter.{into_iter_len}
use Rattle.value_ops.specs.Given.{values_in}
use Rattle.source_meaning.specs.Slots.{slot_values}
use Rattle.source_meaning.proofs.slots.operands.Given as goal

abbrev pub invariant-loop-slot : goal.invariant-loop-slot
invariant-loop-slot l = record {
  values : values_in l.made.operands ≡ slot_values l.names l.yielded;
  room : l.made.room ≡ into_iter_len l.slot-iterator;
}
