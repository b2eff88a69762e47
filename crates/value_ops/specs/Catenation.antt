-- What is put in a row, by the kind of the first operand.
use Rattle.std.specs.Prelude.{List, [], Option, unwrap_or}
use Rattle.flow_value.specs.declared.value.Val.{Val}
use Rattle.flow_value.specs.declared.value.Val.TheViews.{out-Val}
use Rattle.flow_value.specs.Aggregates.{array_val, stream_val}
use Rattle.value_ops.specs.Aggregates.{array_items_in, stream_items_in, all_items}
use Rattle.value_ops.specs.declared.catenate.Joining.{Joining}
use Rattle.value_ops.specs.declared.catenate.Joining.TheVariants as joining

abbrev pub part_in : Joining → Val → Option (List Val)
part_in (joining.Arrays lo) v = array_items_in (out-Val v)
part_in joining.Streams v = stream_items_in (out-Val v)

abbrev pub items_in : Joining → Val → List Val
items_in j v = unwrap_or (part_in j v) []

-- the elements of all values in order, if all are of the kind
abbrev pub all_in : Joining → List Val → Option (List Val)
all_in (joining.Arrays lo) vs = all_items array_items_in vs
all_in joining.Streams vs = all_items stream_items_in vs

abbrev pub whole_in : Joining → List Val → Val
whole_in (joining.Arrays lo) vs = array_val lo vs
whole_in joining.Streams vs = stream_val vs
