use Rattle.std.proofs.Common.{drop}
use Rattle.lowering.specs.Loops.{generators_lowered}
use Rattle.lower_nodes.proofs.Walks.{Going}
use Rattle.lower_nodes.proofs.loops.generators.Given as goal

abbrev pub invariant-loop-place : goal.invariant-loop-place
invariant-loop-place l =
    Going (generators_lowered l.forms l.sources l.bounds) (generators_lowered l.forms (drop l.place l.sources) l.left) l.fn.made l.made l.values
