use Rattle.std.proofs.Common.{◌≡◌, Some}
use Rattle.flow_value.specs.declared.value.Val.TheViews.{out-Val}
use Rattle.if1_graph.specs.Ops.{reducer_at}
use Rattle.if1_graph.specs.declared.op.Reducer.TheVariants as reducer
use Rattle.node_ops.specs.Operands.{multiple_in}
use Rattle.sequential_fire.proofs.SumRows.{name-summed}
use Rattle.sequential_fire.proofs.summing.named_sum.Goals as goal

pub returns-in-Some-Sum : goal.returns-in-Some-Sum
returns-in-Some-Sum c =
    let at = c.reducer_of.ensures in
    let some = c.in-Some-Sum.is in
    let sum = c.in-Some-Sum.field-0-is in
    let is : reducer_at c.args.name.now ≡ Some reducer.Sum = cc in
    name-summed c.sum_of_multiple.result c.args.name.now (multiple_in c.args.v.now (out-Val c.args.v.now)) is c.sum_of_multiple.ensures
