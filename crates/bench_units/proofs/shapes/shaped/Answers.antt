use Rattle.bench_units.proofs.Listed.{edges-follow}
use Rattle.bench_units.proofs.shapes.shaped.Goals as goal

pub count_shaped-requires : goal.count_shaped-requires
count_shaped-requires c = edges-follow c.args.unit.now c.unit.ensures.normal c.args.graph.now c.requires
