use Rattle.std.proofs.Common.{rules, ◌≡◌}
use Rattle.flow_value.specs.declared.value.Val.TheViews as values
use Rattle.flow_value.specs.declared.value.Val.TheViews.{out-Val}
use Rattle.graph_meaning.specs.Carried.{Many}
use Rattle.node_ops.specs.Operands.{multiple_in}
use Rattle.sequential_fire.proofs.SumRows.{stream-summed}
use Rattle.sequential_fire.proofs.summing.sum_of_multiple.Goals as goal

pub returns-in-Stream : goal.returns-in-Stream
returns-in-Stream c =
    let is : multiple_in c.args.v.now (out-Val c.args.v.now) ≡ Many c.as_slice.result.now = search (rules, values.the_lemmas) in
    stream-summed c.sum_of.result (multiple_in c.args.v.now (out-Val c.args.v.now)) c.as_slice.result.now is c.sum_of.ensures
