use Rattle.std.proofs.Common.{arith, sym, ap, ◌∙◌, option_and_then}
use Rattle.if1_graph.specs.Tables.{if_keyed}
use Rattle.if1_graph.specs.Units.{label_of}
use Rattle.if1_graph.proofs.Lookups.{more, less, found_at}
use Rattle.if1_graph.proofs.lookup.node_of.Goals as goal

pub loop-low-preserved-then-nodes-middle : goal.loop-low-preserved-then-nodes-middle
loop-low-preserved-then-nodes-middle c = (
  grind (arith, c.loop-low-test.true),
  c.loop-low.invariant.1,
  more label_of c.args.nodes.now c.loop-low.low c.loop-low.high c.args.label c.index-nodes-middle.result c.requires c.loop-low-test.true c.loop-low.invariant.1 c.if-nodes-middle.true,
  c.loop-low.invariant.3,
)

pub loop-low-preserved : goal.loop-low-preserved
loop-low-preserved c = (
  grind arith,
  grind (arith, c.loop-low-test.true, c.loop-low.invariant.1),
  c.loop-low.invariant.2,
  less label_of c.args.nodes.now c.loop-low.low c.loop-low.high c.args.label c.index-nodes-middle.result c.requires c.loop-low-test.true c.loop-low.invariant.1 c.if-nodes-middle.false,
)

pub returns : goal.returns
returns c =
    c.node_labelled.ensures
    ∙ (ap (option_and_then (if_keyed label_of c.args.label)) c.item_at.ensures
    ∙ sym (found_at label_of c.args.nodes.now c.loop-low.low c.args.label c.requires c.loop-low.invariant.2
    (λ j h i. c.loop-low.invariant.3 j (grind (arith, h, c.loop-low-test.false)) i)
    (grind (arith, c.loop-low.invariant.0, c.loop-low.invariant.1))))
