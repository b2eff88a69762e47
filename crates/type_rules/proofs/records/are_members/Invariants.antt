use Rattle.std.proofs.Common.{◌≡◌, drop}
use Rattle.type_rules.specs.Records.{are_members}
use Rattle.type_rules.proofs.records.are_members.Given as goal

-- the members that are left decide
abbrev pub invariant-loop-i : goal.invariant-loop-i
invariant-loop-i l = are_members l.members l.others ≡ are_members (drop l.i l.members) (drop l.i l.others)
