use Rattle.std.proofs.Common.{◌≡◌, ◌∙◌, ap, arith}
use Rattle.if1_graph.specs.declared.graph.Origin.TheVariants.{Port}
use Rattle.node_works.proofs.Noted.{edge-noted}
use Rattle.node_works.proofs.outputs.note.Goals as goal

pub returns-in-Port : goal.returns-in-Port
returns-in-Port c es was =
    let one : c.in-Port.port ≡ 1 = omega (arith, c.if-port-eq1.true) in
    edge-noted c.args.labels.now es c.args.edge.now c.in-Port.from c.args.types.now c.set_at.new.types c.requires.rising (c.in-Port.is ∙ ap (Port c.in-Port.from) one) c.set_at.ensures was
