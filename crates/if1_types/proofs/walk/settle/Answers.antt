use Rattle.std.proofs.Common.{true≢false}
use Rattle.if1_types.proofs.Walked.{grows_same, grows_then}
use Rattle.if1_types.proofs.walk.settle.Goals as goal

pub loop-more-init : goal.loop-more-init
loop-more-init c = record { grows = grows_same c.args.types.now c.args.shapes.now c.args.found.now c.requires.right; settled = λ e. absurd (true≢false e) }

pub loop-more-preserved : goal.loop-more-preserved
loop-more-preserved c = record {
  grows =
      grows_then c.args.types.now c.args.shapes.now c.loop-more.shapes c.one_more.new.shapes c.args.found.now c.loop-more.found c.one_more.new.found
      c.loop-more.invariant.grows c.in_ok-more.ensures.grows;
  settled = c.in_ok-more.ensures.settled;
}
