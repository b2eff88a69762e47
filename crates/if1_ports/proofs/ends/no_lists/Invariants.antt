use Rattle.std.proofs.Common.{◌≡◌, [], replicate}
use Rattle.if1_ports.proofs.ends.no_lists.Given as goal

abbrev pub invariant-loop : goal.invariant-loop
invariant-loop l = l.lists.items ≡ replicate l.counter []
