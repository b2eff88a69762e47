use Rattle.std.proofs.Common.{length}
use Rattle.if1_components.specs.Tours.{IsTour}
use Rattle.if1_components.proofs.tour.visit.Given as goal

abbrev pub invariant-loop : goal.invariant-loop
invariant-loop l = IsTour (length l.lists) l.tour
