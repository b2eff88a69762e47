use Rattle.std.proofs.Common.{◌≡◌, ◌++◌, ◌-◌, map, drop, length}
use Rattle.flow_value.specs.Lent.{operand_value}
use Rattle.run_cells.specs.Held.{heap_of}
use Rattle.sequential.specs.Loading.{AreInside, seen_of}
use Rattle.sequential_fire.specs.Given.{given_from, all_given}
use Rattle.sequential_fire.proofs.given.all_given.Given as goal

abbrev pub invariant-loop-place : goal.invariant-loop-place
invariant-loop-place l =
    record {
      grown : length l.ins.items ≡ l.place;
      end : l.place-end ≡ length l.operands;
      inside : AreInside l.code (length l.cells - l.base) (drop l.place l.operands);
      all : map operand_value l.ins.items ++ given_from l.place l.row (seen_of l.code l.base (heap_of l.cells) (drop l.place l.operands)) ≡ all_given l.row (seen_of l.code l.base (heap_of l.cells) l.operands);
    }
