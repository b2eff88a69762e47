use Rattle.std.proofs.Common.{◌≡◌, ◌∷◌, [], map, sym, ap, ◌∙◌}
use Rattle.std.proofs.lemmas.Result.{IfOk-weaker}
use Rattle.flow_value.specs.Lent.{operand_value}
use Rattle.node_ops.specs.Operands.{node_values}
use Rattle.node_ops.specs.Rows.{single_value}
use Rattle.node_ops.specs.declared.row.Row.TheVariants.{One}
use Rattle.node_ops.proofs.Resolving.{rows_stand}
use Rattle.node_ops.proofs.dispatch.fire_one.Goals as goal

pub returns : goal.returns
returns c =
    let ins = map operand_value c.args.ins.now in
    let stand = rows_stand c.args.op c.args.shape (One c.in-One.single) ins c.in-One.ensures in
    IfOk-weaker
    c.one_value.result
    (λ v. v ≡ single_value c.in-One.single ins)
    (λ v. node_values c.args.op c.args.shape ins ≡ v ∷ [])
    (λ v e. sym (ap (λ w. w ∷ []) e ∙ stand))
    c.one_value.ensures
