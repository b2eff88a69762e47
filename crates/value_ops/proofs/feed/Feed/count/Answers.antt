use Rattle.std.proofs.Common.{arith}
use Rattle.value_ops.proofs.Feeds.{counted, passed}
use Rattle.value_ops.proofs.feed.Feed.count.Goals as goal
use Rattle.value_ops.proofs.feed.Feed.count.Goals.{in-Some, in-None}

pub loop-port-preserved : goal.loop-port-preserved
loop-port-preserved c =
    let os = c.self.inside.operands.operands in
    let p = c.loop-port.port in
    elim c.match-value.branch [
      | in-Some w ↦ let more = counted os p w.in-Some.field-0.now w.in-Some.ensures in record { few = omega arith; rest = omega arith }
      | in-None w ↦ let same = passed os p w.in-None.ensures in record { few = omega arith; rest = omega arith }
    ]
