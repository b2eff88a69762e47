use Rattle.std.proofs.Common.{◌≡◌, ◌-◌, drop, length}
use Rattle.graph_meaning.specs.Forms.{first_spoiled}
use Rattle.run_cells.specs.Held.{heap_of}
use Rattle.sequential.specs.Loading.{AreInside, seen_of}
use Rattle.sequential_loops.proofs.lengths.first_cause.Given as goal

abbrev pub invariant-loop-place : goal.invariant-loop-place
invariant-loop-place l =
    record {
      end : l.place-end ≡ length l.operands;
      inside : AreInside l.code (length l.cells - l.base) (drop l.place l.operands);
      same : first_spoiled (seen_of l.code l.base (heap_of l.cells) (drop l.place l.operands)) ≡ first_spoiled (seen_of l.code l.base (heap_of l.cells) l.operands);
    }
