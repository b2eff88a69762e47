use Rattle.std.proofs.Common.{arith, sym, ap, ◌∙◌, option_and_then}
use Rattle.if1_graph.specs.Tables.{if_keyed}
use Rattle.if1_graph.specs.declared.graph.TypeEntry.{TypeEntry}
use Rattle.if1_graph.proofs.Lookups.{more, less, found_at}
use Rattle.if1_graph.proofs.lookup.entry_of.Goals as goal

pub loop-low-preserved-then-types-middle : goal.loop-low-preserved-then-types-middle
loop-low-preserved-then-types-middle c = (
  grind (arith, c.loop-low-test.true),
  c.loop-low.invariant.1,
  more (λ (e : TypeEntry). e.label) c.args.types.now c.loop-low.low c.loop-low.high c.args.label c.index-types-middle.result c.requires c.loop-low-test.true c.loop-low.invariant.1 c.if-types-middle.true,
  c.loop-low.invariant.3,
)

pub loop-low-preserved : goal.loop-low-preserved
loop-low-preserved c = (
  grind arith,
  grind (arith, c.loop-low-test.true, c.loop-low.invariant.1),
  c.loop-low.invariant.2,
  less (λ (e : TypeEntry). e.label) c.args.types.now c.loop-low.low c.loop-low.high c.args.label c.index-types-middle.result c.requires c.loop-low-test.true c.loop-low.invariant.1 c.if-types-middle.false,
)

pub returns : goal.returns
returns c =
    c.entry_labelled.ensures
    ∙ (ap (option_and_then (if_keyed (λ (e : TypeEntry). e.label) c.args.label)) c.item_at.ensures
    ∙ sym (found_at (λ (e : TypeEntry). e.label) c.args.types.now c.loop-low.low c.args.label c.requires c.loop-low.invariant.2
    (λ j h i. c.loop-low.invariant.3 j (grind (arith, h, c.loop-low-test.false)) i)
    (grind (arith, c.loop-low.invariant.0, c.loop-low.invariant.1))))
