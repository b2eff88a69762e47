use Rattle.std.proofs.Common.{arith, below_more, sym, ◌∙◌, get_or, false}
use Rattle.if1_read.proofs.Spreading.{no_holder_at}
use Rattle.if1_read.proofs.Truly.{holder_real}
use Rattle.if1_read.proofs.reals.next_holder.Goals as goal
use Rattle.if1_read.proofs.reals.next_holder.Goals.{else-place-marks-via-then-place-marks+else-is_next, else-place-marks-via-else-place-marks}

pub loop-place-preserved : goal.loop-place-preserved
loop-place-preserved c = λ up fit.
    below_more _ _ (c.loop-place.invariant up fit)
    (elim c.else-place-marks.branch [
      | else-place-marks-via-then-place-marks+else-is_next w ↦
          no_holder_at c.args.labels.now c.args.marks.now c.args.types.now c.loop-place.place w.index-types-place.result w.is_next.result
          w.if-place-marks.true c.loop-place-test.true w.index-types-place.is (w.is_next.ensures.holder up) w.if-is_next.false
      | else-place-marks-via-else-place-marks w ↦ absurd (omega (arith, fit, w.if-place-marks.false, c.loop-place-test.true))
    ])

pub returns-then-is_next-clause-real : goal.returns-then-is_next-clause-real
returns-then-is_next-clause-real c = λ is up are.
    holder_real c.args.types.now c.args.labels.now c.args.marks.now (get_or c.args.marks.now c.loop-place.place false) c.loop-place.place c.index-types-place.result is up
    (record { below = c.loop-place-test.true; is = c.index-types-place.is }) are (sym (c.is_next.ensures.holder up) ∙ c.if-is_next.true)
