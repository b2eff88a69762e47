use Rattle.std.proofs.Common.{◌≡◌, replicate}
use Rattle.flow_value.specs.declared.value.Val.TheVariants as val
use Rattle.source_meaning.proofs.words.failed.Given as goal

abbrev pub invariant-loop : goal.invariant-loop
invariant-loop l = l.values ≡ replicate l.counter (val.Err l.cause)
