use Rattle.std.proofs.Common.{◌≡◌, ◌≤◌, ◌+◌, ◌-◌, drop, length}
use Rattle.graph_meaning.specs.Storage.{capped}
use Rattle.run_store.specs.Stored as stored
use Rattle.run_cells.specs.Held.{heap_of}
use Rattle.sequential.specs.Loading.{AreInside, modes_of, seen_of}
use Rattle.sequential_fire.proofs.counting.copied.Given as goal

abbrev pub invariant-loop-place : goal.invariant-loop-place
invariant-loop-place l =
    record {
      end : l.place-end ≡ length l.operands;
      small : l.sum ≤ 18446744073709551615;
      inside : AreInside l.code (length l.cells - l.base) (drop l.place l.operands);
      total : capped (l.sum + stored.copied (modes_of l.code (drop l.place l.operands)) (seen_of l.code l.base (heap_of l.cells) (drop l.place l.operands)))
          ≡ capped (stored.copied (modes_of l.code l.operands) (seen_of l.code l.base (heap_of l.cells) l.operands));
    }
