use Rattle.std.proofs.Common.{◌≤◌, length, refl, arith}
use Rattle.sequential_loops.proofs.SpreadSteps.{unread_step, unread_end}
use Rattle.sequential_loops.proofs.moving.are_unread.Goals as goal

pub loop-place-preserved : goal.loop-place-preserved
loop-place-preserved c = λ code rest. c.loop-place.invariant code (unread_step code c.args.cell c.args.operands.now c.loop-place.place c.operand_at.result c.operand_at.ensures (c.if-not-is_unread.ensures refl code) rest)

pub returns : goal.returns
returns c = λ e code.
    let os = c.args.operands.now in
    let no = c.loop-place-test.false in
    let over : length os ≤ c.loop-place.place = omega (arith, no) in
    c.loop-place.invariant code (unread_end code c.args.cell os c.loop-place.place over)
