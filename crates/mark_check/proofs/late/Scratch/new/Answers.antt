use Rattle.std.proofs.Common.{arith}
use Rattle.mark_check.proofs.Early.{no-scratch}
use Rattle.mark_check.proofs.late.Scratch.new.Goals as goal

pub returns : goal.returns
returns c = λ lists fit.
    no-scratch (record { weights = c.loop.weights; stamps = c.loop.stamps }) c.loop.counter c.loop.invariant.weights c.loop.invariant.stamps lists (omega (arith, fit, c.loop-test.false, c.loop.auto.counter-end))
