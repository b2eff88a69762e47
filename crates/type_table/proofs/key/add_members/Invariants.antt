use Rattle.std.proofs.Common.{◌≡◌, ◌++◌, drop}
use Rattle.type_table.specs.Keys.{members_key}
use Rattle.type_table.proofs.key.add_members.Given as goal

abbrev pub invariant-loop-member : goal.invariant-loop-member
invariant-loop-member l = l.key ++ members_key (drop l.member-index l.members) ≡ l.initial.key ++ members_key l.members
