use Rattle.std.proofs.Common.{◌==◌, ◌∙◌, All, AllPairs, Some, option_map, filter, sym, ap, subst}
use Rattle.if1_graph.specs.declared.graph.Edge.{Edge}
use Rattle.if1_graph.specs.declared.graph.Graph.{Graph}
use Rattle.if1_graph.specs.declared.graph.Graph.TheViews.{out-Graph}
use Rattle.if1_graph.specs.declared.graph.Node.{out-Node}
use Rattle.if1_graph.specs.Normal.{Precedes}
use Rattle.if1_graph.specs.Units.{label_of, width, greatest}
use Rattle.if1_ports.specs.Compound.{around_of}
use Rattle.if1_ports.specs.Fed.{ports_of}
use Rattle.if1_ports.proofs.Walks.{edges_of}
use Rattle.if1_ports.proofs.units.around_in.Goals as goal

pub around_of-requires : goal.around_of-requires
around_of-requires c =
    subst (λ gs. All (λ (g : Graph). AllPairs Precedes (out-Graph g).edges) gs) (sym c.as_slice-in-Some.ensures)
    (edges_of (out-Node c.args.node.now).subs c.requires.inside)

pub returns-in-Some : goal.returns-in-Some
returns-in-Some c =
    let n = c.args.node.now in
    let k = c.in-Some.compound in
    let wide = c.greatest_port-width.ensures
    ∙ ap (λ es. greatest (ports_of es)) (c.edges_into.ensures ∙ ap (filter (λ (e : Edge). e.node == label_of n)) c.as_slice.ensures) in
    ap Some
    (c.around_of.ensures ∙ ap (λ w. around_of k w c.as_slice-in-Some.result.now) wide
    ∙ ap (around_of k (width c.args.graph.now (label_of n))) c.as_slice-in-Some.ensures)
    ∙ ap (option_map (λ k. around_of k (width c.args.graph.now (label_of n)) (out-Node n).subs)) (sym c.in-Some.is ∙ c.compound_of.ensures)
