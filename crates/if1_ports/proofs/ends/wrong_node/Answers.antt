use Rattle.std.proofs.Common.{◌≡◌, ◌∙◌, ◌<◌, ◌≤◌, true, All, List, get_or, length, subst, sym, ap}
use Rattle.std.proofs.lemmas.List.{take_all}
use Rattle.std.proofs.lemmas.List.Elements.{All-more}
use Rattle.if1_graph.specs.declared.graph.Graph.TheViews.{out-Graph}
use Rattle.if1_graph.specs.declared.graph.Node.{Node}
use Rattle.if1_graph.specs.Units.{label_of}
use Rattle.if1_ports.specs.Outlines.{types_in}
use Rattle.if1_ports.specs.Names.{callees_in}
use Rattle.if1_ports.specs.Ends.{is_right}
use Rattle.if1_ports.proofs.ends.wrong_node.Goals as goal

pub loop-place-preserved : goal.loop-place-preserved
loop-place-preserved c =
    let o = types_in c.args.types.now in
    let d = callees_in c.args.names.now in
    let g = c.args.graph.now in
    let n = c.index-nodes-place.result in
    let k = c.loop-place.place in
    All-more (λ n. is_right o d c.args.bounds g (label_of n) ≡ true) (out-Graph g).nodes k n
    (subst (λ (ns : List Node). k < length ns) c.as_slice-nodes.ensures c.loop-place-test.true) c.loop-place.invariant
    (subst (λ n. is_right o d c.args.bounds g (label_of n) ≡ true) (c.index-nodes-place.is ∙ ap (λ (ns : List Node). get_or ns k n) c.as_slice-nodes.ensures)
    (sym c.is_node_right.ensures ∙ c.if-not-is_node_right.false))

pub returns : goal.returns
returns c =
    let o = types_in c.args.types.now in
    let d = callees_in c.args.names.now in
    let g = c.args.graph.now in
    subst (λ ns. All (λ n. is_right o d c.args.bounds g (label_of n) ≡ true) ns)
    (take_all c.loop-place.place (out-Graph g).nodes
    (subst (λ (ns : List Node). length ns ≤ c.loop-place.place) c.as_slice-nodes.ensures c.loop-place-test.false)) c.loop-place.invariant
