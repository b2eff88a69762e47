use Rattle.std.proofs.Common.{◌≡◌, [], replicate}
use Rattle.if1_components.proofs.backward.no_links.Given as goal

abbrev pub invariant-loop : goal.invariant-loop
invariant-loop l = l.lists.items ≡ replicate l.counter []
