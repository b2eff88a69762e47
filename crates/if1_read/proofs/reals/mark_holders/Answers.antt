use Rattle.std.proofs.Common.{sym, subst}
use Rattle.if1_read.specs.Spread.{IsRealAt}
use Rattle.if1_read.proofs.Truly.{keeps_both}
use Rattle.if1_read.proofs.reals.mark_holders.Goals as goal

pub loop-at-preserved : goal.loop-at-preserved
loop-at-preserved c = record {
  keeps = keeps_both c.args.marks.now c.loop-at.marks c.mark.new.marks c.loop-at.invariant.keeps c.in_ok-mark.ensures.keeps;
  real = λ ts leads part are.
      c.in_ok-mark.ensures.real ts (leads c.loop-at.at _ c.loop-at-test.true (subst (IsRealAt ts) (sym c.if-pairs-at.false) part)) (c.loop-at.invariant.real ts leads part are);
  todo = λ ts leads part all.
      c.in_ok-mark.ensures.todo ts (leads c.loop-at.at _ c.loop-at-test.true (subst (IsRealAt ts) (sym c.if-pairs-at.false) part)) (c.loop-at.invariant.todo ts leads part all);
}
