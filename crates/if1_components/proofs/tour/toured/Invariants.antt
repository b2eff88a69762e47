use Rattle.std.proofs.Common.{length}
use Rattle.if1_components.specs.Tours.{IsTour}
use Rattle.if1_components.proofs.tour.toured.Given as goal

abbrev pub invariant-loop-root : goal.invariant-loop-root
invariant-loop-root l = IsTour (length l.lists) l.tour
