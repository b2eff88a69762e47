use Rattle.std.proofs.Common.{◌≡◌, ◌++◌, drop}
use Rattle.lower_exprs.proofs.turns.names_from.Given as goal

abbrev pub invariant-loop-level : goal.invariant-loop-level
invariant-loop-level l = l.wires ++ drop l.level l.names.here ≡ drop l.from l.names.here
