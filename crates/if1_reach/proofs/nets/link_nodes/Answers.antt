use Rattle.std.proofs.Common.{◌≡◌, ◌+◌, ◌∷◌, ◌++◌, [], take, subst, sym, ap, refl, ◌∙◌}
use Rattle.std.proofs.lemmas.List.{take_more, take_all}
use Rattle.if1_graph.specs.declared.graph.Node.{Node}
use Rattle.if1_graph.specs.Units.{label_of}
use Rattle.marks_made.specs.Ways.{Links}
use Rattle.if1_reach.specs.Nets.{IsNet, with_links, with_nodes}
use Rattle.if1_reach.proofs.Links.{nodes-start, nodes-next}
use Rattle.if1_reach.proofs.nets.link_nodes.Goals as goal

pub loop-node-init : goal.loop-node-init
loop-node-init c = record { net = nodes-start c.args.labels.now c.args.lists.now.items (take 0 c.args.nodes.now) refl; fit = c.requires.fit }

pub loop-node-preserved : goal.loop-node-preserved
loop-node-preserved c =
    let e : take (c.loop-node.node-index + 1) c.args.nodes.now ≡ take c.loop-node.node-index c.args.nodes.now ++ c.node-item.result ∷ [] =
    take_more c.args.nodes.now c.loop-node.node-index c.node-item.result c.loop-node-test.true
    ∙ ap (λ (x : Node). take c.loop-node.node-index c.args.nodes.now ++ x ∷ []) (sym c.node-item.is) in
    record {
      net = nodes-next c.args.labels.now c.args.lists.now.items c.loop-node.lists.items c.link_all.new.lists.items c.node-item.result (take c.loop-node.node-index c.args.nodes.now) (take (c.loop-node.node-index + 1) c.args.nodes.now)
          (subst (λ ks. (links : Links) → IsNet c.args.labels.now c.loop-node.lists.items links → IsNet c.args.labels.now c.link_all.new.lists.items (with_links links ks (label_of c.node-item.result)))
          c.as_slice.ensures c.in_ok-link_all.ensures.net) e c.loop-node.invariant.net;
      fit = c.in_ok-link_all.ensures.fit;
    }

pub returns : goal.returns
returns c =
    subst (λ ns. (links : Links) → IsNet c.args.labels.now c.args.lists.now.items links → IsNet c.args.labels.now c.loop-node.lists.items (with_nodes links ns))
    (take_all c.loop-node.node-index c.args.nodes.now c.loop-node-test.false) c.loop-node.invariant.net
