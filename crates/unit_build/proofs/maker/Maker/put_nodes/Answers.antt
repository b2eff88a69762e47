use Rattle.std.proofs.Common.{◌≡◌, ◌+◌, ◌∙◌, suc, [], ◌∷◌, ap, subst, sym, arith}
use Rattle.std.specs.Prelude.{All}
use Rattle.std.specs.Vec.Iter.{into_iter_items}
use Rattle.std.proofs.lemmas.List.Elements.{All-head, All-tail}
use Rattle.lowered_units.specs.Units.{listed_node, listed_nodes, node_edges, edges_of}
use Rattle.unit_build.specs.Nesting.{listed, Hold}
use Rattle.unit_build.specs.Readiness.{IsReadyNode}
use Rattle.unit_build.proofs.Blocks.{block-more, one-less}
use Rattle.unit_build.proofs.Nesting.{takes-first}
use Rattle.unit_build.proofs.maker.Maker.put_nodes.Goals as goal

pub put_node-requires-clause-begin : goal.put_node-requires-clause-begin
put_node-requires-clause-begin c =
    let made = c.loop-node.made.items in
    let label = c.loop-node.label in
    (takes-first (listed_node label c.in-Some.node.action) (listed_nodes (suc label) (into_iter_items c.next.new.self)) made
    (subst (λ l. Hold (listed_nodes label l) made) c.in-Some.ensures.items c.loop-node.invariant.hold)).begin

pub put_node-requires-clause-ready : goal.put_node-requires-clause-ready
put_node-requires-clause-ready c =
    let p = c.args.self.now.program.now in
    All-head (IsReadyNode p) c.in-Some.node (into_iter_items c.next.new.self) (subst (All (IsReadyNode p)) c.in-Some.ensures.items c.loop-node.invariant.ready)

pub loop-node-preserved : goal.loop-node-preserved
loop-node-preserved c =
    let p = c.args.self.now.program.now in
    let v = c.in-Some.node in
    let left = into_iter_items c.loop-node.left in
    let rest = into_iter_items c.next.new.self in
    let made = c.loop-node.made.items in
    let label = c.loop-node.label in
    let put = c.in_ok-put_node.ensures in
    let less = one-less left rest v c.in-Some.ensures.items in
    let next : suc label ≡ label + 1 = omega arith in
    let takes = takes-first (listed_node label v.action) (listed_nodes (suc label) rest) made (subst (λ l. Hold (listed_nodes label l) made) c.in-Some.ensures.items c.loop-node.invariant.hold) in
    record {
      hold = subst (λ k. Hold (listed_nodes k rest) c.put_node.new.made.items) next (subst (Hold (listed_nodes (suc label) rest)) (sym put.rest) takes.rest);
      nodes = block-more (listed c.loop-node.body.nodes) (listed c.put_node.new.body.nodes) (listed_node label v.action ∷ []) (listed_nodes label left) _ _ _
          c.loop-node.invariant.nodes (ap (listed_nodes label) c.in-Some.ensures.items) put.nodes (ap (λ k. listed_nodes k rest) (sym next));
      inside = put.inside ∙ c.loop-node.invariant.inside;
      edges = block-more c.loop-node.body.edges c.put_node.new.body.edges (node_edges p label v.action v.ins) (edges_of p label left []) _ _ _
          c.loop-node.invariant.edges (ap (λ l. edges_of p label l []) c.in-Some.ensures.items) put.edges (ap (λ k. edges_of p k rest []) (sym next));
      few = omega (arith, c.loop-node.invariant.few, less);
      ready = All-tail (IsReadyNode p) v rest (subst (All (IsReadyNode p)) c.in-Some.ensures.items c.loop-node.invariant.ready);
    }
