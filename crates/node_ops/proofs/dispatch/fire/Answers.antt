use Rattle.std.proofs.Common.{◌≡◌, ◌∷◌, [], List, map, ap, subst, ◌∙◌}
use Rattle.std.specs.Result.{IfOk}
use Rattle.flow_value.specs.Lent.{operand_value}
use Rattle.flow_value.specs.declared.value.Val.{Val}
use Rattle.node_ops.specs.declared.row.Row.TheVariants.{One, Scattered, Fields}
use Rattle.node_ops.proofs.Resolving.{rows_stand}
use Rattle.node_ops.proofs.dispatch.fire.Goals as goal

pub returns-in_ok-value-in-One : goal.returns-in_ok-value-in-One
returns-in_ok-value-in-One c =
    let P : List Val → Type 0 = λ vs. IfOk c.only.result (λ outs. outs ≡ vs) in
    let is = ap (λ v. v ∷ []) c.in_ok-value-in-One.ensures ∙ rows_stand c.args.op c.args.shape (One c.in-One.single) (map operand_value c.args.ins.now) c.in-One.ensures in
    subst P is c.only.ensures

pub returns-in-Scattered : goal.returns-in-Scattered
returns-in-Scattered c =
    let P : List Val → Type 0 = λ vs. IfOk c.scatter.result (λ outs. outs ≡ vs) in
    subst P (rows_stand c.args.op c.args.shape Scattered (map operand_value c.args.ins.now) c.in-Scattered.ensures) c.scatter.ensures

pub returns-in-Fields : goal.returns-in-Fields
returns-in-Fields c =
    let P : List Val → Type 0 = λ vs. IfOk c.fields.result (λ outs. outs ≡ vs) in
    subst P (rows_stand c.args.op c.args.shape (Fields c.in-Fields.count) (map operand_value c.args.ins.now) c.in-Fields.ensures) c.fields.ensures
