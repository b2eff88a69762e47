use Rattle.std.proofs.Common.{◌≡◌, ◌∙◌, ap, arith}
use Rattle.std.proofs.lemmas.Result.{on_ok_weaker}
use Rattle.if1_graph.specs.declared.graph.Origin.TheVariants.{Port}
use Rattle.if1_ports.proofs.Tables.{edge_noted}
use Rattle.if1_ports.proofs.ends.note_edge.Goals as goal

pub returns-in-Port : goal.returns-in-Port
returns-in-Port c =
    let one : c.in-Port.port ≡ 1 = omega arith in
    on_ok_weaker c.note.result
    (λ noted es was. edge_noted c.args.labels.now es c.args.edge.now c.in-Port.from c.args.lists.now.items c.note.new.lists.items c.requires.rising (c.in-Port.is ∙ ap (Port c.in-Port.from) one) noted was)
    c.note.ensures
