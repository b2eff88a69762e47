use Rattle.std.proofs.Common.{◌≡◌, ◌<◌, arith, get_or}
use Rattle.sisal_lex.proofs.Numbers.{front_too_large, with_digit}
use Rattle.sisal_lex.proofs.rows.number_of.Goals as goal

pub returns-then-value-gt-LARGEST : goal.returns-then-value-gt-LARGEST
returns-then-value-gt-LARGEST c =
    let large : 9223372036854775807 < with_digit c.loop-byte.value (get_or c.args.others.now c.loop-byte.byte-index 0) = omega arith in
    front_too_large _ c.loop-byte.value c.loop-byte.byte-index c.args.others.now c.loop-byte.invariant.1 c.loop-byte-test.true large
