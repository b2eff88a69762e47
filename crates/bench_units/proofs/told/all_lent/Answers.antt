use Rattle.bench_units.proofs.Listed.{graph-of}
use Rattle.bench_units.proofs.told.all_lent.Goals as goal

pub lent_inside-requires-clause-here : goal.lent_inside-requires-clause-here
lent_inside-requires-clause-here c = graph-of c.args.unit.now c.args.graphs.now c.requires.graphs c.loop-graph.graph-index c.graph-item.result c.loop-graph-test.true c.graph-item.is
