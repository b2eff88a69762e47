use Rattle.std.proofs.Common.{◌<◌, slice_index, subst, All}
use Rattle.std.proofs.lemmas.List.{take_all}
use Rattle.std.proofs.lemmas.List.Elements.{All-more, All-contains}
use Rattle.take_marks.proofs.check.are_lower.Goals as goal

pub loop-feeder-preserved : goal.loop-feeder-preserved
loop-feeder-preserved c = All-more (λ s. slice_index c.args.ranks.now s < c.args.rank) c.args.feeders.now c.loop-feeder.feeder-index 0 c.loop-feeder-test.true c.loop-feeder.invariant c.if-ranks-feeder.false

pub returns : goal.returns
returns c = λ x s i.
    All-contains (λ s. slice_index c.args.ranks.now s < c.args.rank) c.args.feeders.now s
    (subst (All (λ s. slice_index c.args.ranks.now s < c.args.rank)) (take_all c.loop-feeder.feeder-index c.args.feeders.now c.loop-feeder-test.false) c.loop-feeder.invariant) i
