use Rattle.std.proofs.Common.{◌≡◌, replicate}
use Rattle.if1_types.specs.Finds.{nothing}
use Rattle.if1_types.proofs.walk.no_parts.Given as goal

abbrev pub invariant-loop : goal.invariant-loop
invariant-loop l = l.parts ≡ replicate l.counter nothing
