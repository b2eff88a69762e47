use Rattle.std.proofs.Common.{◌≡◌, drop}
use Rattle.std.specs.List.{list_all}
use Rattle.mean_call.specs.Known.{is_known_member}
use Rattle.mean_call.proofs.known.are_members.Given as goal

-- the members that are left decide
abbrev pub invariant-loop-member : goal.invariant-loop-member
invariant-loop-member l = list_all (is_known_member l.names l.known) l.members ≡ list_all (is_known_member l.names l.known) (drop l.member-index l.members)
