use Rattle.std.proofs.Common.{◌≡◌, ℕ, true, false, List, drop, length}
use Rattle.graph_meaning.specs.Carried.{Carried}
use Rattle.run_code.specs.Collections.{put_all}
use Rattle.run_cells.specs.Held.{heap_of}
use Rattle.sequential.specs.Agrees.{owned_all}
use Rattle.sequential_loops.specs.Laying.{IsLaid, owning}
use Rattle.sequential_loops.specs.Putting.{AreMovedOnce, IsReadIn, AreThere, collections_of}
use Rattle.sequential_loops.proofs.rows.put_row.Given as goal

abbrev pub invariant-loop-place : goal.invariant-loop-place
invariant-loop-place l =
    record {
      end : l.place-end ≡ length l.collects;
      size : length l.cells.items ≡ length l.fn.cells.items;
      once : l.moves ≡ true → AreMovedOnce (drop l.place l.collects);
      whole : l.moves ≡ false → l.row.items ≡ l.fn.row.items;
      row : (i : ℕ) → IsReadIn (drop l.place l.collects) i → heap_of l.row.items i ≡ heap_of l.fn.row.items i;
      laid : (ms : List Carried) → AreThere l.begins l.collects l.from ms (heap_of l.fn.cells.items) → IsLaid l.from l.place (owning (put_all (collections_of l.collects) (owned_all l.fn.row.items) ms)) (heap_of l.fn.cells.items) (heap_of l.cells.items);
    }
