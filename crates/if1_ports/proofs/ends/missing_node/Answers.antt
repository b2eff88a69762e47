use Rattle.std.proofs.Common.{◌≡◌, ◌⊎◌, All, Contains, subst}
use Rattle.std.proofs.lemmas.List.{take_all}
use Rattle.std.proofs.lemmas.List.Elements.{All-more}
use Rattle.if1_graph.specs.declared.graph.Edge.{Edge}
use Rattle.if1_ports.proofs.ends.missing_node.Goals as goal

pub loop-edge-preserved : goal.loop-edge-preserved
loop-edge-preserved c =
    All-more (λ (e : Edge). (e.node ≡ 0) ⊎ Contains c.args.labels.now e.node) c.args.edges.now c.loop-edge.edge-index c.edge-item.result c.loop-edge-test.true c.loop-edge.invariant
    (subst (λ (e : Edge). (e.node ≡ 0) ⊎ Contains c.args.labels.now e.node) c.edge-item.is c.if-not-is_end.ensures)

pub returns : goal.returns
returns c =
    subst (λ es. All (λ (e : Edge). (e.node ≡ 0) ⊎ Contains c.args.labels.now e.node) es)
    (take_all c.loop-edge.edge-index c.args.edges.now c.loop-edge-test.false) c.loop-edge.invariant
