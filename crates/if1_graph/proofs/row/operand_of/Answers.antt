use Rattle.std.proofs.Common.{◌≤◌, arith}
use Rattle.std.specs.Option.{option_copied}
use Rattle.if1_graph.proofs.Operands.{found}
use Rattle.if1_graph.proofs.row.operand_of.Goals as goal

pub returns : goal.returns
returns c =
    let h : 1 ≤ c.args.port = grind (arith, c.if-port-eq0.false) in
    found c.args.op c.args.port c.operands_of.result.now (option_copied c.item_at.result) c.rest_of.result c.rest_operand.result c.first_or.result
    h c.operands_of.ensures c.item_at.ensures c.rest_of.ensures c.rest_operand.ensures c.first_or.ensures
