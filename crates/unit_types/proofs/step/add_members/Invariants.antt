use Rattle.std.proofs.Common.{◌≡◌, ◌++◌, drop}
use Rattle.unit_types.specs.Rests.{members_with}
use Rattle.unit_types.proofs.step.add_members.Given as goal

-- the members so far, with those that are left
abbrev pub invariant-loop-named : goal.invariant-loop-named
invariant-loop-named l = l.members ++ members_with (drop l.named-index l.names) l.ty ≡ l.fn.members ++ members_with l.names l.ty
