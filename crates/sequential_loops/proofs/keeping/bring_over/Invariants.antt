use Rattle.std.proofs.Common.{◌≡◌, ◌≤◌, ◌-◌, drop, length}
use Rattle.sequential.specs.Loading.{AreInside, AreApart}
use Rattle.step_code.specs.Reading.{AreClear}
use Rattle.sequential_loops.specs.Keeping.{OverSoFar}
use Rattle.sequential_loops.proofs.keeping.bring_over.Given as goal

abbrev pub invariant-loop-place : goal.invariant-loop-place
invariant-loop-place l =
    record {
      end : l.place-end ≡ length l.operands;
      size : length l.cells.items ≡ length l.fn.cells.items;
      small : l.copies ≤ 18446744073709551615;
      inside : AreInside l.code (length l.fn.cells.items - l.base) (drop l.place l.operands);
      apart : AreApart l.code (drop l.place l.operands);
      clear : AreClear l.from (length l.operands) (drop l.place l.operands);
      over : OverSoFar l.code l.base l.from (length l.operands) l.operands (drop l.place l.operands) l.place l.fn.cells.items l.cells.items l.fn.copies l.copies;
    }
