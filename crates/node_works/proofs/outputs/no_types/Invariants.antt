use Rattle.std.proofs.Common.{◌≡◌, None, replicate}
use Rattle.node_works.proofs.outputs.no_types.Given as goal

abbrev pub invariant-loop : goal.invariant-loop
invariant-loop l = l.types ≡ replicate l.counter None
