use Rattle.std.proofs.Common.{rules, arith}
use Rattle.std.proofs.lemmas.Int.{ints}
use Rattle.node_ops.proofs.Listing.{rising_more}
use Rattle.node_ops.proofs.generators.rising_from.Goals as goal

pub loop-place-preserved : goal.loop-place-preserved
loop-place-preserved c = search (rules, rising_more, arith, ints)
