use Rattle.std.proofs.Common.{◌≡◌, ℕ, ◌≤◌, length}
use Rattle.run_cells.specs.Held.{heap_of}
use Rattle.sequential_loops.specs.Laying.{IsLaid}
use Rattle.sequential_loops.proofs.laying.settle.Given as goal

abbrev pub invariant-loop-place : goal.invariant-loop-place
invariant-loop-place l =
    record {
      size : length l.cells.items ≡ length l.fn.cells.items;
      long : length l.loaded.items ≡ length l.fn.loaded.items;
      rest : (i : ℕ) → l.place ≤ i → heap_of l.loaded.items i ≡ heap_of l.fn.loaded.items i;
      laid : IsLaid l.from l.place (heap_of l.fn.loaded.items) (heap_of l.fn.cells.items) (heap_of l.cells.items);
    }
