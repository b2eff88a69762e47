use Rattle.std.proofs.Common.{◌≡◌, ◌++◌, map, drop}
use Rattle.lowering.specs.Loops.{single}
use Rattle.line_walk.proofs.loops.add_singles.Given as goal

abbrev pub invariant-loop-one : goal.invariant-loop-one
invariant-loop-one l = l.names ++ map single (drop l.one-index l.carried) ≡ l.fn.names ++ map single l.carried
