use Rattle.std.proofs.Common.{◌≡◌, List, map, ap, subst, sym}
use Rattle.std.specs.Result.{IfOk}
use Rattle.flow_value.specs.Lent.{operand_value}
use Rattle.flow_value.specs.declared.value.Val.{Val}
use Rattle.value_ops.specs.Given.{values_in}
use Rattle.node_ops.specs.Operands.{output_value}
use Rattle.node_ops.proofs.Listing.{scattered-none}
use Rattle.node_ops.proofs.generators.scatter.Goals as goal

pub returns-in-None : goal.returns-in-None
returns-in-None c =
    let P : List Val → Type 0 = λ vs. IfOk c.errors.result (λ outs. outs ≡ vs) in
    let none = scattered-none (values_in (map operand_value c.args.ins.now)) c.in-None.ensures in
    subst P (sym (ap (map output_value) none)) c.errors.ensures
