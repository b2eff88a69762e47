use Rattle.node_works.proofs.Ordered.{all-ordered, graph-ordered}
use Rattle.node_works.proofs.widths.widths_of.Goals as goal

pub widths_in-requires-clause-order : goal.widths_in-requires-clause-order
widths_in-requires-clause-order c = graph-ordered c.args.unit.now c.unit.ensures.ready c.unit.ensures.normal c.args.graph.now c.requires.here

pub widths_in-requires-clause-inside : goal.widths_in-requires-clause-inside
widths_in-requires-clause-inside c = all-ordered c.args.unit.now c.unit.ensures.ready c.unit.ensures.normal c.args.graph.now c.requires.here
