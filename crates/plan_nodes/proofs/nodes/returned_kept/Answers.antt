use Rattle.std.proofs.Common.{◌≡◌, ◌++◌, sym, ap, ◌∙◌}
use Rattle.gapped.specs.Spread.{spread}
use Rattle.plan_builder.specs.declared.ways.Reading.TheVariants as reading
use Rattle.plan_builder.specs.Collects.{collects_of}
use Rattle.plan_nodes.specs.Nodes.{simple_by}
use Rattle.plan_nodes.specs.Ports.{port_by, whole_ports}
use Rattle.plan_nodes.proofs.Spread.{sparse-collects, sparse-node, sparse-told}
use Rattle.plan_nodes.proofs.nodes.returned_kept.Goals as goal

pub returns-clause-node : goal.returns-clause-node
returns-clause-node c =
    let a = c.args in
    let fs = spread a.filler a.gaps.now a.items.now in
    c.simple_by.ensures fs (sparse-told a.row c.requires.sparse fs)
    ∙ (ap (simple_by fs a.joined a.marks a.row a.row a.shape)
    (c.new-all.ensures
    ∙ (ap (λ z. spread z c.in_ok-numbers.numbers c.in_ok-ins.ins) c.simple_port.ensures
    ∙ (ap (λ z. spread (port_by a.filler) z c.in_ok-ins.ins) c.in_ok-numbers.ensures
    ∙ ap (spread (port_by a.filler) a.gaps.now) (c.in_ok-ins.ensures ∙ ap (λ k. whole_ports a.plain k a.items.now) c.in_ok-number.ensures))))
    ∙ sparse-node a.plain a.filler c.requires.none a.row c.requires.sparse a.gaps.now a.items.now a.joined a.marks _ a.shape)

pub returns-clause-collects : goal.returns-clause-collects
returns-clause-collects c =
    let a = c.args in
    c.in_ok-add_collects.ensures
    ∙ ap (λ z. a.collects.now ++ z)
    (ap (collects_of reading.Whole a.plain) (c.as_slice.ensures ∙ c.in_ok-ports.ensures) ∙ sparse-collects a.plain a.filler c.requires.none a.row c.requires.sparse a.gaps.now a.items.now)
