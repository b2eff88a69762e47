use Rattle.std.proofs.Common.{◌≡◌, [], replicate}
use Rattle.if1_order.proofs.feeders.no_feeders.Given as goal

abbrev pub invariant-loop : goal.invariant-loop
invariant-loop l = l.lists.items ≡ replicate l.counter []
