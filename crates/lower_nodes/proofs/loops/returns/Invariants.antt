use Rattle.std.proofs.Common.{drop}
use Rattle.lowering.specs.Loops.{returns_lowered}
use Rattle.lower_nodes.specs.Bounds.{plain}
use Rattle.lower_nodes.proofs.Walks.{Going}
use Rattle.lower_nodes.proofs.loops.returns.Given as goal

abbrev pub invariant-loop-place : goal.invariant-loop-place
invariant-loop-place l =
    Going (returns_lowered (plain l.bound) l.clauses l.multiples l.types)
    (returns_lowered (plain l.bound) (drop l.place l.clauses) l.left (drop l.place l.types)) l.fn.made l.made l.values
