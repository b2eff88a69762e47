use Rattle.std.proofs.Common.{◌≡◌, ◌++◌, map, drop}
use Rattle.lowering.specs.Loops.{many}
use Rattle.line_walk.proofs.loops.multiples.Given as goal

abbrev pub invariant-loop-one : goal.invariant-loop-one
invariant-loop-one l = l.all ++ map many (drop l.one-index l.carried) ≡ map many l.carried
