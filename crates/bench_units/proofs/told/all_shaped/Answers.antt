use Rattle.bench_units.proofs.Listed.{graph-of}
use Rattle.bench_units.proofs.told.all_shaped.Goals as goal

pub shaped-requires : goal.shaped-requires
shaped-requires c = graph-of c.args.unit.now c.args.graphs.now c.requires c.loop-graph.graph-index c.graph-item.result c.loop-graph-test.true c.graph-item.is
