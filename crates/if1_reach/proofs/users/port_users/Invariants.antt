use Rattle.std.proofs.Common.{take}
use Rattle.if1_reach.specs.Users.{HasUsers}
use Rattle.if1_reach.proofs.users.port_users.Given as goal

abbrev pub invariant-loop-edge : goal.invariant-loop-edge
invariant-loop-edge l = HasUsers (take l.edge-index l.edges) l.users
