use Rattle.std.proofs.Common.{refl, slice_index}
use Rattle.if1_reach.proofs.Ranking.{next-set}
use Rattle.if1_reach.proofs.ranks.ranks_in.Goals as goal

pub loop-rank-preserved : goal.loop-rank-preserved
loop-rank-preserved c =
    next-set c.args.order.now c.loop-rank.ranks c.set.new.self c.args.places c.loop-rank.rank (slice_index c.args.order.now c.loop-rank.rank) c.requires.once c.requires.inside c.loop-rank.invariant c.loop-rank-test.true refl c.set.ensures
