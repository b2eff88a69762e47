use Rattle.std.proofs.Common.{◌∙◌, ap, sym}
use Rattle.if1_graph.specs.Units.{label_of}
use Rattle.if1_ports.specs.Outlines.{outline_of}
use Rattle.graph_meaning.specs.Networks.{output_type, shape_of}
use Rattle.node_works.specs.Tables.{sort_by}
use Rattle.node_works.proofs.Shaped.{output-known, stream-row}
use Rattle.node_works.proofs.shapes.shape_at.Goals as goal

pub returns-in-ABuild : goal.returns-in-ABuild
returns-in-ABuild c u t e =
    let g = c.args.graph.now in
    let n = c.args.node.now in
    c.stream_shape.ensures (output_type u g (label_of n)) (c.outline_at.ensures u t ∙ ap (λ o. outline_of (sort_by u o)) e ∙ ap outline_of (output-known u g n))
    ∙ stream-row u g (label_of n) c.args.row c.in-ABuild.is

pub returns-in-RBuild : goal.returns-in-RBuild
returns-in-RBuild c u t e =
    let g = c.args.graph.now in
    let n = c.args.node.now in
    c.union_shape.ensures (output_type u g (label_of n)) (c.outline_at-in-RBuild.ensures u t ∙ ap (λ o. outline_of (sort_by u o)) e ∙ ap outline_of (output-known u g n))
    ∙ ap (shape_of u g (label_of n)) (sym c.in-RBuild.is)
