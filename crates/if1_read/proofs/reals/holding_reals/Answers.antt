use Rattle.std.proofs.Common.{◌≡◌, ◌<◌, Bool, true, false, List, length, refl, sym, ap, subst, slice_index_or}
use Rattle.std.specs.List.Sorted.{IsStrictlyIncreasing}
use Rattle.if1_read.specs.Marks.{labels_in}
use Rattle.if1_read.specs.Spread.{HasNoHolder, IsRealAt, AreTrue}
use Rattle.if1_read.proofs.Spreading.{first_turn, next_turn, marks_now, marks_at_last}
use Rattle.if1_read.proofs.Truly.{mapped_true, true_set}
use Rattle.if1_read.proofs.reals.holding_reals.Goals as goal

pub loop-init : goal.loop-init
loop-init c = record {
  turn = first_turn c.args.types.now c.in_ok-marks.marks c.spread.new.marks c.in_ok-marks.ensures c.in_ok-spread.ensures.keeps;
  real = λ is up.
      c.in_ok-spread.ensures.real is up
      (subst (AreTrue c.args.types.now) (sym c.in_ok-marks.ensures) (mapped_true c.args.types.now (subst IsStrictlyIncreasing is up)));
}

pub returns-in-None-clause-all : goal.returns-in-None-clause-all
returns-in-None-clause-all c =
    marks_now c.args.labels.now c.args.types.now c.loop.marks c.loop.counter c.loop.invariant.turn
    (subst (λ (ms : List Bool). IsStrictlyIncreasing c.args.labels.now → length ms ≡ length c.args.types.now → HasNoHolder c.args.labels.now ms c.args.types.now) c.as_slice.ensures
    (c.in-None.ensures.none refl))

pub loop-preserved : goal.loop-preserved
loop-preserved c =
    let free = subst (λ (ms : List Bool). (c.in-Some.place < length ms) × (slice_index_or ms c.in-Some.place true ≡ false)) c.as_slice.ensures c.in-Some.ensures.some in
    record {
      turn = next_turn c.args.types.now c.loop.marks c.set.new.self c.loop.counter c.in-Some.place c.loop.invariant.turn free.0 free.1 c.set.ensures;
      real = λ is up.
          let are = c.loop.invariant.real is up in
          let at = c.in-Some.ensures.real is up (subst (AreTrue c.args.types.now) (sym c.as_slice.ensures) are) in
          subst (AreTrue c.args.types.now) (sym c.set.ensures) (true_set c.args.types.now c.loop.marks c.in-Some.place at are);
    }

pub returns-clause-all : goal.returns-clause-all
returns-clause-all c = marks_at_last c.args.labels.now c.args.types.now c.loop.marks c.loop.counter c.loop.invariant.turn c.loop-test.false
