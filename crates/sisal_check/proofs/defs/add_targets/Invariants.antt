use Rattle.std.proofs.Common.{◌≡◌, ◌++◌, drop}
use Rattle.typing_laws.specs.Defining.{named_targets}
use Rattle.sisal_check.proofs.defs.add_targets.Given as goal

-- the names so far and those that are left are all
abbrev pub invariant-loop-target : goal.invariant-loop-target
invariant-loop-target l = l.names ++ named_targets (drop l.target-index l.targets) ≡ l.fn.names ++ named_targets l.targets
