use Rattle.std.proofs.Common.{◌≡◌, ◌≤◌, ◌-◌, drop, length}
use Rattle.sequential.specs.Loading.{AreInside, AreApart}
use Rattle.sequential_loops.specs.Moving.{MovedSoFar}
use Rattle.sequential_loops.proofs.moving.load_moved.Given as goal

abbrev pub invariant-loop-place : goal.invariant-loop-place
invariant-loop-place l =
    record {
      end : l.place-end ≡ length l.operands;
      size : length l.cells.items ≡ length l.fn.cells.items;
      long : length l.loaded.items ≡ l.place;
      small : l.copies ≤ 18446744073709551615;
      inside : AreInside l.code (length l.fn.cells.items - l.base) (drop l.place l.operands);
      apart : AreApart l.code (drop l.place l.operands);
      loads : MovedSoFar l.code l.base l.from l.many l.operands (drop l.place l.operands) l.fn.cells.items l.loaded.items l.cells.items l.fn.copies l.copies;
    }
