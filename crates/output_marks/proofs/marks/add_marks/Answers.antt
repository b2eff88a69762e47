use Rattle.std.proofs.Common.{◌≡◌, length, arith}
use Rattle.output_marks.proofs.Told.{marks-told}
use Rattle.output_marks.proofs.marks.add_marks.Goals as goal

pub returns-in_ok-add_row-in-Ok-clause-told : goal.returns-in_ok-add_row-in-Ok-clause-told
returns-in_ok-add_row-in-Ok-clause-told c =
    let first : c.in-Ok.first ≡ length c.args.marks.now = omega (arith, c.in-Ok.ensures, c.len.ensures) in
    marks-told c.args.unit.now c.args.graph.now c.args.label c.args.width c.args.row c.args.marks.now c.add_row.new.marks c.in-Ok.first first c.in_ok-add_row-in-Ok.ensures
