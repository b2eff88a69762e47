use Rattle.std.proofs.Common.{◌≡◌, map}
use Rattle.graph_meaning.specs.Carried.{val_of}
use Rattle.unit_whole.specs.Agrees.{owned_all}
use Rattle.unit_code.proofs.values.values_of.Given as goal

abbrev pub invariant-loop-cell : goal.invariant-loop-cell
invariant-loop-cell l = l.values ≡ map val_of (owned_all l.yielded)
