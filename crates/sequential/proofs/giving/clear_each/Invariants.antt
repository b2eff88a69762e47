use Rattle.std.proofs.Common.{◌≡◌, take, length}
use Rattle.sequential.proofs.giving.clear_each.Given as goal

abbrev pub invariant-loop-place : goal.invariant-loop-place
invariant-loop-place l =
    record {
      low : take l.base l.cells.items ≡ take l.base l.fn.cells.items;
      size : length l.cells.items ≡ length l.fn.cells.items;
    }
