use Rattle.std.proofs.Common.{◌<◌, arith, get_or}
use Rattle.if1_graph.proofs.Rows.{front_too_large, with_digit}
use Rattle.if1_graph.proofs.number.row_value.Goals as goal

pub returns-then-value-gt-LARGEST : goal.returns-then-value-gt-LARGEST
returns-then-value-gt-LARGEST c =
    let large : 4294967295 < with_digit c.loop-digit.value (get_or c.args.digits.now c.loop-digit.digit-index 0) = omega arith in
    front_too_large _ c.loop-digit.value c.loop-digit.digit-index c.args.digits.now c.loop-digit.invariant.1 c.loop-digit-test.true large
