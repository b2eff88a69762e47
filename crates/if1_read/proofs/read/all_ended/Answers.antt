use Rattle.if1_read.proofs.Levelwise.{one_more}
use Rattle.if1_read.proofs.read.all_ended.Goals as goal

pub loop-level-preserved : goal.loop-level-preserved
loop-level-preserved c =
    let next = c.in_ok-named.ensures in
    one_more c.args.known.now c.loop-level.yielded c.in-Some.level c.args.first c.loop-level.first c.in_ok-named.named c.loop-level.invariant next.clean next.found
