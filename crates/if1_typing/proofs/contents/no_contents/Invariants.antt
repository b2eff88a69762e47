use Rattle.std.proofs.Common.{◌≡◌, replicate}
use Rattle.if1_typing.specs.declared.site.Content.TheVariants.{Any}
use Rattle.if1_typing.proofs.contents.no_contents.Given as goal

abbrev pub invariant-loop : goal.invariant-loop
invariant-loop l = l.contents.items ≡ replicate l.counter Any
