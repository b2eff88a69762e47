use Rattle.std.proofs.Common.{◌≡◌, ◌∙◌, ◌≤◌, true, List, All, length, subst, sym}
use Rattle.std.proofs.lemmas.List.{take_all}
use Rattle.if1_graph.specs.declared.graph.Graph.TheViews.{out-Graph}
use Rattle.if1_graph.specs.declared.graph.Node.{Node}
use Rattle.if1_graph.specs.Units.{label_of}
use Rattle.if1_order.proofs.Members.{mapped_contains}
use Rattle.if1_typing.specs.Tables.{table_of}
use Rattle.if1_typing.specs.Sites.{Around}
use Rattle.if1_typing.specs.Ends.{is_right}
use Rattle.if1_typing.proofs.Walks.{node_here, node_right_as, right_more}
use Rattle.if1_typing.proofs.ends.wrong_node.Goals as goal

pub returns-then-not-is_right : goal.returns-then-not-is_right
returns-then-not-is_right c =
    let t = table_of c.args.known.now in
    let a : Around = record { site = c.args.site; inputs = c.args.inputs.now; parts = c.args.parts.now } in
    let g = c.args.graph.now in
    let n = c.node-item.result in
    let there = node_here c.as_slice-node-items.result.now g c.loop-node.node-index n c.as_slice-node-items.ensures c.loop-node-test.true c.node-item.is in (
      mapped_contains label_of (out-Graph g).nodes n there,
      sym (node_right_as t a g n c.doing_of.result c.requires.laid there c.doing_of.ensures) ∙ sym c.is_right.ensures ∙ c.if-not-is_right.true,
    )

pub loop-node-preserved : goal.loop-node-preserved
loop-node-preserved c =
    let t = table_of c.args.known.now in
    let a : Around = record { site = c.args.site; inputs = c.args.inputs.now; parts = c.args.parts.now } in
    let g = c.args.graph.now in
    let n = c.node-item.result in
    let there = node_here c.as_slice-node-items.result.now g c.loop-node.node-index n c.as_slice-node-items.ensures c.loop-node-test.true c.node-item.is in
    right_more t a g c.as_slice-node-items.result.now c.loop-node.node-index n c.as_slice-node-items.ensures c.loop-node-test.true c.node-item.is c.loop-node.invariant
    (sym (node_right_as t a g n c.doing_of.result c.requires.laid there c.doing_of.ensures) ∙ sym c.is_right.ensures ∙ c.if-not-is_right.false)

pub returns : goal.returns
returns c =
    let t = table_of c.args.known.now in
    let a : Around = record { site = c.args.site; inputs = c.args.inputs.now; parts = c.args.parts.now } in
    let g = c.args.graph.now in
    subst (λ ns. All (λ n. is_right t a g (label_of n) ≡ true) ns)
    (take_all c.loop-node.node-index (out-Graph g).nodes
    (subst (λ (ns : List Node). length ns ≤ c.loop-node.node-index) c.as_slice-node-items.ensures c.loop-node-test.false)) c.loop-node.invariant
