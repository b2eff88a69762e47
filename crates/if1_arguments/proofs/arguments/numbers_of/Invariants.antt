use Rattle.std.proofs.Common.{◌≡◌, map, take}
use Rattle.if1_arguments.proofs.arguments.numbers_of.Given as goal

abbrev pub invariant-loop-parameter : goal.invariant-loop-parameter
invariant-loop-parameter l = l.numbers ≡ map (λ p. p.ty) (take l.parameter-index l.parameters)
