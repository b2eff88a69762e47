use Rattle.std.proofs.Common.{◌≡◌, ◌++◌, map, length}
use Rattle.value_ops.specs.Operand.{value_of}
use Rattle.value_ops.proofs.feed.Feed.values.Given as goal

abbrev pub invariant-loop-v : goal.invariant-loop-v
invariant-loop-v l = map value_of l.values.items ++ l.self ≡ l.fn.self

abbrev pub decreases-loop-v : goal.decreases-loop-v
decreases-loop-v l = length l.self
