use Rattle.std.proofs.Common.{◌≡◌, ◌++◌, drop}
use Rattle.type_rules.specs.Records.{paired}
use Rattle.type_rules.proofs.records.paired.Given as goal

-- the members so far and those to come are all
abbrev pub invariant-loop-i : goal.invariant-loop-i
invariant-loop-i l = l.members ++ paired (drop l.i l.names) (drop l.i l.types) ≡ paired l.names l.types
