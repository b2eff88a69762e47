use Rattle.std.proofs.Common.{◌≡◌, length}
use Rattle.run_code.specs.Collections.{nothing_in}
use Rattle.run_cells.specs.Held.{heap_of}
use Rattle.sequential_loops.specs.Laying.{IsLaid, owning}
use Rattle.sequential_loops.specs.Putting.{collections_of}
use Rattle.sequential_loops.proofs.spreading.begin_all.Given as goal

abbrev pub invariant-loop-place : goal.invariant-loop-place
invariant-loop-place l =
    record {
      end : l.place-end ≡ length l.collects;
      size : length l.cells.items ≡ length l.fn.cells.items;
      laid : IsLaid l.from l.place (owning (nothing_in (collections_of l.collects))) (heap_of l.fn.cells.items) (heap_of l.cells.items);
    }
