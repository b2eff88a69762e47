use Rattle.std.proofs.Common.{◌≢◌}
use Rattle.mark_check.proofs.Lesser.{among-step, among-all}
use Rattle.mark_check.proofs.least.least_other.Goals as goal

pub loop-other-preserved : goal.loop-other-preserved
loop-other-preserved c =
    among-step (λ m. m ≢ c.args.label) c.args.labels.now c.loop-other.other-index c.loop-other-test.true c.is_another-wanted.result c.is_another-wanted.ensures.0 c.is_another-wanted.ensures.1
    c.loop-other.least c.keep-least.result c.loop-other.invariant c.keep-least.ensures

pub returns : goal.returns
returns c = among-all (λ m. m ≢ c.args.label) c.args.labels.now c.loop-other.other-index c.loop-other-test.false c.loop-other.least c.loop-other.invariant
