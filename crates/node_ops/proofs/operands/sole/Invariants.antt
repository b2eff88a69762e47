use Rattle.std.proofs.Common.{◌≡◌, map, drop}
use Rattle.std.specs.List.{cons_option}
use Rattle.std.specs.Option.{option_copied}
use Rattle.flow_value.specs.Lent.{operand_value}
use Rattle.value_ops.specs.Given.{values_in}
use Rattle.node_ops.proofs.operands.sole.Given as goal

abbrev pub invariant-loop-one : goal.invariant-loop-one
invariant-loop-one l =
    cons_option (option_copied l.found) (values_in (map operand_value (drop l.one-index l.ins))) ≡ values_in (map operand_value l.ins)
