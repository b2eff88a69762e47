use Rattle.std.proofs.Common.{◌≡◌, ◌++◌, drop}
use Rattle.typing_laws.specs.Defining.{targets_in}
use Rattle.sisal_check.proofs.defs.targets_of.Given as goal

-- the targets so far and those that are left are all
abbrev pub invariant-loop-d : goal.invariant-loop-d
invariant-loop-d l = l.names ++ targets_in (drop l.d-index l.ds) ≡ targets_in l.ds
