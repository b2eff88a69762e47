use Rattle.std.proofs.Common.{◌∙◌, ◌==◌, ◌&&◌, length, ap}
use Rattle.if1_graph.specs.Rows.{row_of, operand_of}
use Rattle.if1_ports.specs.Outlines.{types_in}
use Rattle.if1_ports.specs.Simple.{is_filled, is_named}
use Rattle.if1_ports.proofs.simple.is_simple_filled.Goals as goal

pub returns : goal.returns
returns c =
    let o = types_in c.args.types.now in
    let lv = c.args.leaving.now in
    let f = c.args.fed in
    let op = c.args.op in
    let a = is_filled o f lv (length (row_of op).operands) (row_of op).rest in
    let b = is_named f (operand_of op 1) in
    c.both.ensures
    ∙ ap (λ x. x && (c.args.numbers == 0))
    (c.both-simple.ensures
    ∙ ap (λ x. x && (c.args.graphs == 0))
    (c.both-node.ensures
    ∙ ap (λ x. x && c.is_bounded-bound.result)
    (c.both-row.ensures
    ∙ ap (λ x. x && c.is_named-name.result)
    (c.is_filled-ports.ensures
    ∙ ap (λ k. is_filled o f lv (length k) c.rest_of.result) c.operands_of.ensures
    ∙ ap (is_filled o f lv (length (row_of op).operands)) c.rest_of.ensures)
    ∙ ap (λ y. a && y) (c.is_named-name.ensures ∙ ap (is_named f) c.operand_of.ensures))
    ∙ ap (λ y. (a && b) && y) c.is_bounded-bound.ensures))
