-- What an operand is, lent or owned.
use Rattle.std.specs.Prelude.{List}
use Rattle.flow_value.specs.declared.value.Val.{Val}
use Rattle.flow_value.specs.Bounds.{Bounded, bounded}
use Rattle.value_ops.specs.declared.values.Value.{Value}
use Rattle.value_ops.specs.declared.values.Value.TheVariants as value
use Rattle.value_ops.specs.declared.listed.Listed.{Listed}
use Rattle.value_ops.specs.declared.listed.Listed.TheVariants as listed
use Rattle.value_ops.specs.declared.listed.Placed.{Placed}
use Rattle.value_ops.specs.declared.listed.Sequence.{Sequence}
use Rattle.value_ops.specs.declared.listed.Sequence.TheVariants as sequence
use Rattle.flow_value.specs.declared.value.Val.TheVariants as val

abbrev pub value_of : Value → Val
value_of (value.Lent v) = v.now
value_of (value.Owned v) = v

abbrev pub items_of : Listed → List Val
items_of (listed.Lent vs) = vs.now
items_of (listed.Owned vs) = vs

abbrev pub array_of : Placed → Bounded Val
array_of a = bounded a.lo (items_of a.items)

abbrev pub sequence_of : Sequence → Val
sequence_of (sequence.Array a) = val.Arr (array_of a)
sequence_of (sequence.Stream vs) = val.Stream (items_of vs)
