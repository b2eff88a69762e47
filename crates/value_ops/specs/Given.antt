-- The values that an operation is given: a port without an operand counts for nothing.
use Rattle.std.specs.Prelude.{List, Option, filter_map}
use Rattle.flow_value.specs.declared.value.Val.{Val}

abbrev pub values_in : List (Option Val) → List Val
values_in ports = filter_map (λ o. o) ports
