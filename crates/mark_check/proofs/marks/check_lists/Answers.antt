use Rattle.mark_check.specs.Marks.{HasWrongEntry}
use Rattle.mark_check.proofs.Whole.{graph-linked, entry-wrong, entries-right, all-places}
use Rattle.mark_check.proofs.marks.check_lists.Goals as goal

pub first_wrong_entry-requires : goal.first_wrong_entry-requires
first_wrong_entry-requires c = graph-linked c.args.unit.now c.requires.ready c.requires.normal c.args.graphs.now c.requires.graphs c.loop-graph.graph-index c.graph-item.result c.loop-graph-test.true c.graph-item.is

pub returns-in-Some-clause-wrong : goal.returns-in-Some-clause-wrong
returns-in-Some-clause-wrong c =
    entry-wrong c.args.unit.now c.requires.ready c.requires.normal c.args.graphs.now c.requires.graphs c.loop-graph.graph-index c.graph-item.result c.loop-graph-test.true c.graph-item.is
    c.in_ok-found.found c.in-Some.at c.in-Some.is c.in_ok-found.ensures c.loop-graph.invariant

pub loop-graph-preserved : goal.loop-graph-preserved
loop-graph-preserved c =
    entries-right c.args.unit.now c.requires.ready c.requires.normal c.args.graphs.now c.requires.graphs c.loop-graph.graph-index c.graph-item.result c.loop-graph-test.true c.graph-item.is
    c.in_ok-found.found c.in_default.is c.in_ok-found.ensures c.loop-graph.invariant

pub returns-clause-right : goal.returns-clause-right
returns-clause-right c = all-places (λ p. ¬ HasWrongEntry p) c.args.unit.now c.args.graphs.now c.requires.graphs c.loop-graph.graph-index c.loop-graph-test.false c.loop-graph.invariant
