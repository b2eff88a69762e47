use Rattle.std.proofs.Common.{◌+◌, ◌*◌, length}
use Rattle.if1_types.specs.Finds.{unmet_in}
use Rattle.if1_types.specs.Steps.{Grows}
use Rattle.if1_types.proofs.walk.walk.Given as goal

abbrev pub invariant-loop-place : goal.invariant-loop-place
invariant-loop-place l = Grows l.types l.fn.shapes l.shapes l.fn.found l.found

abbrev pub decreases-loop-place : goal.decreases-loop-place
decreases-loop-place l = length l.waiting + 4 * unmet_in l.met
