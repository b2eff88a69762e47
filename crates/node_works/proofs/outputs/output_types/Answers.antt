use Rattle.std.proofs.Common.{◌∙◌, map, sym, ap, subst}
use Rattle.std.specs.List.Sorted.{IsStrictlyIncreasing}
use Rattle.if1_graph.specs.declared.graph.Graph.TheViews.{out-Graph}
use Rattle.if1_graph.specs.Units.{label_of}
use Rattle.node_works.specs.Tables.{first_leaving}
use Rattle.node_works.proofs.Noted.{by-labels}
use Rattle.node_works.proofs.Ordered.{labels-rise}
use Rattle.node_works.proofs.outputs.output_types.Goals as goal

pub types_by-requires : goal.types_by-requires
types_by-requires c =
    subst IsStrictlyIncreasing (sym (c.as_slice-2.ensures ∙ c.in_ok-labels.ensures ∙ ap (map label_of) c.as_slice.ensures))
    (labels-rise c.args.unit.now c.unit.ensures.ready c.unit.ensures.normal c.args.graph.now c.requires.here)

pub returns : goal.returns
returns c =
    let g = c.args.graph.now in
    c.in_ok-types.ensures
    ∙ ap (λ es. map (first_leaving es) c.as_slice-2.result.now) c.as_slice-3.ensures
    ∙ ap (map (first_leaving (out-Graph g).edges)) (c.as_slice-2.ensures ∙ c.in_ok-labels.ensures ∙ ap (map label_of) c.as_slice.ensures)
    ∙ by-labels (out-Graph g).edges (out-Graph g).nodes
