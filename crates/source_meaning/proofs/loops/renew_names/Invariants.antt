use Rattle.std.proofs.Common.{◌≡◌, length}
use Rattle.source_meaning.specs.Loops.{renewal}
use Rattle.source_meaning.proofs.loops.renew_names.Given as goal

-- the names in force now, with those of the turn that are still to renew, decide the loop names
abbrev pub invariant-loop-v : goal.invariant-loop-v
invariant-loop-v l = renewal l.renewed l.mark l.height l.names ≡ renewal l.renewed l.mark l.height l.initial.names

abbrev pub decreases-loop-v : goal.decreases-loop-v
decreases-loop-v l = length l.names
