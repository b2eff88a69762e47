use Rattle.std.proofs.Common.{◌∙◌, sym}
use Rattle.lowering.specs.Operations.{row_lowered}
use Rattle.lowering.specs.Choices.{applied}
use Rattle.lower_nodes.proofs.Walks.{if_as}
use Rattle.lower_nodes.proofs.Rows.{plain_is}
use Rattle.lower_nodes.proofs.operations.applied.Goals as goal

pub returns-in-Some : goal.returns-in-Some
returns-in-Some c =
    let forms = c.args.forms.now in
    let op = c.args.op.now in
    let ws = c.args.wires in
    let ts = c.args.types.now in
    if_as c.row.result (applied forms op ws ts) (row_lowered c.in-Some.simple ws ts) c.args.made.now c.row.new.made
    (plain_is forms op c.in-Some.simple ws ts (sym c.in-Some.is ∙ c.plain_row.ensures)) c.row.ensures
