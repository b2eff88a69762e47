use Rattle.std.proofs.Common.{◌≡◌, ◌∙◌, [], refl, ap, sym, subst, arith}
use Rattle.lowering.specs.Graphs.{closed}
use Rattle.lowered_data.specs.Parts.{graph_closed}
use Rattle.lowered_units.specs.Units.{listed_nodes, inner_graphs, edges_of, function_graph}
use Rattle.unit_build.specs.Nesting.{Hold}
use Rattle.unit_build.specs.Readiness.{IsReadyGraph}
use Rattle.unit_build.proofs.Functions.{hold-all, graph-listed}
use Rattle.unit_build.proofs.maker.Maker.function_graph.Goals as goal

pub body_of-requires : goal.body_of-requires
body_of-requires c =
    let p = c.args.self.now.program.now in
    let m = c.args.lowered in
    let made = c.in_ok-made.made.items in
    let is : c.in_ok-graph.graph ≡ closed [] 0 0 m = c.in_ok-graph.ensures ∙ ap (λ ks. graph_closed ks 0 0 (record { nodes = m.nodes; results = m.values })) c.new.ensures in
    record {
      ready = subst (IsReadyGraph p) (sym is) c.requires.ready.own;
      hold = subst (λ d. Hold (listed_nodes 1 d.nodes) made) (sym is)
          (hold-all p c.args.number m c.requires.ready.nested made (c.in_ok-made.ensures ∙ ap (λ k. inner_graphs p k m.graphs) (omega arith)));
    }

pub returns : goal.returns
returns c =
    let p = c.args.self.now.program.now in
    let m = c.args.lowered in
    let body = c.in_ok-body.body in
    let is : c.in_ok-graph.graph ≡ closed [] 0 0 m = c.in_ok-graph.ensures ∙ ap (λ ks. graph_closed ks 0 0 (record { nodes = m.nodes; results = m.values })) c.new.ensures in
    graph-listed p c.args.number m c.requires.ready.nested c.in_ok-made.made.items (c.in_ok-made.ensures ∙ ap (λ k. inner_graphs p k m.graphs) (omega arith))
    (function_graph p c.args.place c.args.function.now c.args.number (closed [] 0 0 m))
    (record { number = c.args.number; exported = c.args.exported; name = c.in_ok-name_of.field-0; fun = c.header_label.result; nodes = body.nodes; edges = body.edges })
    c.body_of.new.made.items refl c.requires.exported c.in_ok-name_of.ensures c.header_label.ensures
    (c.in_ok-body.ensures.nodes ∙ ap (λ d. listed_nodes 1 d.nodes) is) (c.in_ok-body.ensures.edges ∙ ap (λ d. edges_of p 1 d.nodes d.results) is) c.in_ok-body.ensures.inside refl
