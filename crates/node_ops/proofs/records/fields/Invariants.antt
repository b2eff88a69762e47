use Rattle.std.proofs.Common.{◌≡◌, map}
use Rattle.flow_value.specs.Lent.{operand_value}
use Rattle.value_ops.specs.Given.{values_in}
use Rattle.node_ops.specs.Rows.{field_values}
use Rattle.node_ops.proofs.records.fields.Given as goal

abbrev pub invariant-loop-place : goal.invariant-loop-place
invariant-loop-place l = l.outs ≡ field_values l.place (values_in (map operand_value l.ins))
