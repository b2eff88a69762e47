use Rattle.std.proofs.Common.{◌≡◌, ◌++◌, drop}
use Rattle.line_types.specs.Traces.{ones}
use Rattle.line_walk.proofs.nodes.add_ones.Given as goal

abbrev pub invariant-loop-ty : goal.invariant-loop-ty
invariant-loop-ty l = l.values ++ ones (drop l.ty-index l.tys) ≡ l.fn.values ++ ones l.tys
