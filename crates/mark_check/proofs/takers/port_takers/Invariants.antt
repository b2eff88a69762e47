use Rattle.std.proofs.Common.{take}
use Rattle.if1_reach.specs.Users.{HasUsers}
use Rattle.mark_check.specs.Takers.{taking}
use Rattle.mark_check.proofs.takers.port_takers.Given as goal

abbrev pub invariant-loop-edge : goal.invariant-loop-edge
invariant-loop-edge l = HasUsers (taking (take l.edge-index l.edges)) l.takers
