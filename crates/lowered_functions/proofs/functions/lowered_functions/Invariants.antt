use Rattle.std.proofs.Common.{drop}
use Rattle.lowered_functions.proofs.Running.{Going}
use Rattle.lowered_functions.proofs.functions.lowered_functions.Given as goal

abbrev pub invariant-loop-function : goal.invariant-loop-function
invariant-loop-function l = Going l.program (drop l.function-index l.functions) l.number l.lowered
