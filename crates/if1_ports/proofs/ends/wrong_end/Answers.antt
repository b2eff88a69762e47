use Rattle.std.proofs.Common.{◌∙◌, map, ap}
use Rattle.if1_graph.specs.declared.graph.Graph.TheViews.{out-Graph}
use Rattle.if1_graph.specs.Units.{label_of}
use Rattle.if1_ports.specs.Ends.{leaving}
use Rattle.if1_ports.proofs.Right.{leaving_nodes}
use Rattle.if1_ports.proofs.ends.wrong_end.Goals as goal

pub wrong_in-found-requires-clause-lists : goal.wrong_in-found-requires-clause-lists
wrong_in-found-requires-clause-lists c =
    let es = (out-Graph c.args.graph.now).edges in
    let ns = (out-Graph c.args.graph.now).nodes in
    c.as_slice-4.ensures.value ∙ c.in_ok-lists.ensures
    ∙ ap (λ es. map (leaving es) c.as_slice-2.result.now) c.as_slice-3.ensures
    ∙ ap (map (leaving es)) (c.as_slice-2.ensures ∙ c.in_ok-labels.ensures ∙ ap (map label_of) c.as_slice.ensures)
    ∙ leaving_nodes es ns
