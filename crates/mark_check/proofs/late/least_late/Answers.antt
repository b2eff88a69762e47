use Rattle.mark_check.specs.Late.{IsLate}
use Rattle.mark_check.proofs.Lesser.{among-step, among-all}
use Rattle.mark_check.proofs.late.least_late.Goals as goal

pub loop-user-preserved : goal.loop-user-preserved
loop-user-preserved c =
    among-step (IsLate c.args.labels.now c.args.ranks.now c.args.weights.now c.args.taker c.args.node) c.args.users.now c.loop-user.user-index c.loop-user-test.true c.is_late-wanted.result c.is_late-wanted.ensures.0 c.is_late-wanted.ensures.1
    c.loop-user.least c.keep-least.result c.loop-user.invariant c.keep-least.ensures

pub returns : goal.returns
returns c =
    among-all (IsLate c.args.labels.now c.args.ranks.now c.args.weights.now c.args.taker c.args.node) c.args.users.now c.loop-user.user-index c.loop-user-test.false c.loop-user.least c.loop-user.invariant
