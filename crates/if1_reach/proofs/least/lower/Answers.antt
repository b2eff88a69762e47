use Rattle.std.proofs.Common.{◌∙◌, ◌+◌, ◌<◌, ◌≤◌, take, slice_index, sym, subst}
use Rattle.if1_reach.specs.Least.{AreLowered}
use Rattle.if1_reach.proofs.Sinking.{none-lowered, lowered-set, lowered-kept, all-lowered}
use Rattle.if1_reach.proofs.least.lower.Goals.{then-as_slice-place, else-as_slice-place}
use Rattle.if1_reach.proofs.least.lower.Goals as goal

pub loop-place-init : goal.loop-place-init
loop-place-init c = none-lowered c.args.weight c.args.weights.now c.args.places.now

pub loop-place-preserved : goal.loop-place-preserved
loop-place-preserved c =
    let at = slice_index c.args.places.now c.loop-place.place-index in
    elim c.if-as_slice-place.branch [
      | then-as_slice-place w ↦
          lowered-set c.args.places.now c.loop-place.place-index c.args.weight c.args.weights.now c.loop-place.weights c.loop-place.invariant c.loop-place-test.true
          (c.requires c.loop-place.place-index 0 c.loop-place-test.true)
          (subst (λ xs. c.args.weight < slice_index xs at) c.as_slice.ensures w.if-as_slice-place.true)
          c.if-as_slice-place.weights (w.weights-is ∙ w.set.ensures)
      | else-as_slice-place w ↦
          subst (AreLowered (take (c.loop-place.place-index + 1) c.args.places.now) c.args.weight c.args.weights.now) (sym w.weights-is)
          (lowered-kept c.args.places.now c.loop-place.place-index c.args.weight c.args.weights.now c.loop-place.weights c.loop-place.invariant c.loop-place-test.true
          (subst (λ xs. slice_index xs at ≤ c.args.weight) c.as_slice.ensures w.if-as_slice-place.false))
    ]

pub returns : goal.returns
returns c = all-lowered c.args.places.now c.loop-place.place-index c.args.weight c.args.weights.now c.loop-place.weights c.loop-place.invariant c.loop-place-test.false
