use Rattle.mark_check.specs.Marks.{HasWrongTaker}
use Rattle.mark_check.proofs.Whole.{graph-in-order, flags-fit, taker-wrong, takers-right, all-places}
use Rattle.mark_check.proofs.marks.check_takers.Goals as goal

pub first_bad_taker-requires-clause-order : goal.first_bad_taker-requires-clause-order
first_bad_taker-requires-clause-order c =
    graph-in-order c.args.unit.now c.requires.ready c.requires.normal c.args.graphs.now c.requires.graphs c.loop-index.index c.index-graphs-index.result c.loop-index-test.true c.index-graphs-index.is
    c.requires.lists c.args.flags.now c.requires.flags c.as_slice.result.now c.index-flags-index.result c.as_slice.ensures c.index-flags-index.is

pub first_bad_taker-requires-clause-flags : goal.first_bad_taker-requires-clause-flags
first_bad_taker-requires-clause-flags c =
    flags-fit c.args.unit.now c.requires.ready c.requires.normal c.args.graphs.now c.requires.graphs c.loop-index.index c.index-graphs-index.result c.loop-index-test.true c.index-graphs-index.is
    c.requires.lists c.args.flags.now c.requires.flags c.as_slice.result.now c.index-flags-index.result c.as_slice.ensures c.index-flags-index.is

pub returns-in-Some-clause-wrong : goal.returns-in-Some-clause-wrong
returns-in-Some-clause-wrong c =
    taker-wrong c.args.unit.now c.requires.ready c.requires.normal c.args.graphs.now c.requires.graphs c.loop-index.index c.index-graphs-index.result c.loop-index-test.true c.index-graphs-index.is
    c.requires.lists c.args.flags.now c.requires.flags c.as_slice.result.now c.index-flags-index.result c.as_slice.ensures c.index-flags-index.is
    c.in_ok-found.found c.in_ok-found.ensures c.in-Some.bad c.in-Some.is c.loop-index.invariant

pub loop-index-preserved : goal.loop-index-preserved
loop-index-preserved c =
    takers-right c.args.unit.now c.requires.ready c.requires.normal c.args.graphs.now c.requires.graphs c.loop-index.index c.index-graphs-index.result c.loop-index-test.true c.index-graphs-index.is
    c.requires.lists c.args.flags.now c.requires.flags c.as_slice.result.now c.index-flags-index.result c.as_slice.ensures c.index-flags-index.is
    c.in_ok-found.found c.in_ok-found.ensures c.in_default.is c.loop-index.invariant

pub returns-clause-right : goal.returns-clause-right
returns-clause-right c = all-places (λ p. ¬ HasWrongTaker c.args.unit.now p) c.args.unit.now c.args.graphs.now c.requires.graphs c.loop-index.index c.loop-index-test.false c.loop-index.invariant
