use Rattle.std.proofs.Common.{◌≡◌}
use Rattle.run_cells.specs.Held.{rising_in}
use Rattle.sequential_fire.proofs.given.rising.Given as goal

abbrev pub invariant-loop-place : goal.invariant-loop-place
invariant-loop-place l = l.items ≡ rising_in l.lo l.place
