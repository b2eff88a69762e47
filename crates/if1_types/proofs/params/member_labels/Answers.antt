use Rattle.std.proofs.Common.{◌-◌, arith}
use Rattle.if1_types.specs.Tables.{is_line}
use Rattle.if1_types.proofs.Labelled.{one_more}
use Rattle.if1_types.proofs.params.member_labels.Goals as goal

pub loop-label-preserved : goal.loop-label-preserved
loop-label-preserved c = record {
  left =
      one_more (is_line c.args.line) c.args.types.now _ c.loop-label.left (c.loop-label.left - 1) c.loop-label.label c.in-Some.entry.now c.loop-label.labels c.add.new.self
      (omega (arith, c.loop-label-test.true)) (omega (arith, c.if-left-eq0.false)) c.in-Some.ensures c.loop-label.invariant.left c.in_ok-add.ensures.ok;
}
