use Rattle.std.proofs.Common.{arith}
use Rattle.lower_nodes.proofs.Lists.{below_greatest}
use Rattle.line_walk.proofs.ports.add_changed.Goals as goal

pub filled-requires : goal.filled-requires
filled-requires c = λ k. let h = below_greatest c.args.places.now k in omega (arith, h, c.greatest.ensures)
