use Rattle.std.proofs.Common.{◌++◌, ◌∷◌, [], map, sym, ap, ◌∙◌}
use Rattle.flow_value.specs.Lent.{operand_value}
use Rattle.value_ops.specs.Given.{values_in}
use Rattle.node_ops.specs.Rows.{field_values}
use Rattle.node_ops.proofs.Listing.{fields_more}
use Rattle.node_ops.proofs.records.fields.Goals as goal

pub loop-place-preserved : goal.loop-place-preserved
loop-place-preserved c =
    let vs = values_in (map operand_value c.args.ins.now) in
    let n = c.loop-place.place in
    c.in_ok-add.ensures.ok
    ∙ ap (λ xs. xs ++ c.in_ok-field_in.field-0 ∷ []) c.loop-place.invariant
    ∙ ap (λ v. field_values n vs ++ v ∷ []) c.in_ok-field_in.ensures
    ∙ sym (fields_more n vs)
