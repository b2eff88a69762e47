use Rattle.std.proofs.Common.{arith}
use Rattle.if1_reach.proofs.Ways.{step-on, ends-on}
use Rattle.if1_reach.proofs.search.way_on.Goals as goal

pub loop-on-preserved : goal.loop-on-preserved
loop-on-preserved c =
    step-on c.args.lists.now c.args.from c.args.to c.args.search.now c.requires.search c.loop-on.way c.loop-on.on (omega (arith, c.loop-on-test.true)) c.loop-on.invariant.0 c.loop-on.invariant.1
    c.as_slice.result.now c.as_slice.ensures c.add-in-loop-on.new.self c.in_ok-add-2.ensures.ok

pub returns : goal.returns
returns c =
    ends-on c.args.lists.now c.args.from c.args.to c.args.search.now.met c.loop-on.way c.loop-on.on (omega (arith, c.loop-on-test.false)) c.loop-on.invariant.0 c.loop-on.invariant.1
    c.add-2.new.self c.in_ok-add-3.ensures.ok
