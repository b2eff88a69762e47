use Rattle.std.proofs.Common.{take}
use Rattle.take_marks.specs.Standing.{AreWeighed}
use Rattle.take_marks.proofs.order.weigh_users.Given as goal

abbrev pub invariant-loop-index : goal.invariant-loop-index
invariant-loop-index l = AreWeighed (take l.index l.users) l.places l.fn.weights l.weights
