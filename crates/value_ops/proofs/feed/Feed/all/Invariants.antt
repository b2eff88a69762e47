use Rattle.std.proofs.Common.{◌≡◌, ◌++◌, length}
use Rattle.value_ops.proofs.feed.Feed.all.Given as goal

abbrev pub invariant-loop-v : goal.invariant-loop-v
invariant-loop-v l = l.items ++ l.self ≡ l.fn.self

abbrev pub decreases-loop-v : goal.decreases-loop-v
decreases-loop-v l = length l.self
