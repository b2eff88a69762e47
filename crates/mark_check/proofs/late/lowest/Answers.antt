use Rattle.std.proofs.Common.{arith}
use Rattle.std.proofs.Math.Nat.{min-le_left, min-le_right}
use Rattle.mark_check.proofs.Early.{low-more, low-all}
use Rattle.mark_check.proofs.late.lowest.Goals as goal

pub loop-user-preserved : goal.loop-user-preserved
loop-user-preserved c =
    let down = min-le_left c.loop-user.least c.rank_or-rank.result in
    let this = min-le_right c.loop-user.least c.rank_or-rank.result in
    record {
      own = omega (arith, c.min-least.ensures, down, c.loop-user.invariant.own);
      low = low-more c.args.labels.now c.args.ranks.now c.args.users.now c.loop-user.user-index c.loop-user-test.true c.loop-user.least c.min-least.result c.rank_or-rank.result
          (omega (arith, c.min-least.ensures, down)) (omega (arith, c.min-least.ensures, this)) c.rank_or-rank.ensures c.loop-user.invariant.low;
    }

pub returns-clause-low : goal.returns-clause-low
returns-clause-low c = low-all c.args.labels.now c.args.ranks.now c.args.users.now c.loop-user.user-index c.loop-user.least c.loop-user-test.false c.loop-user.invariant.low
