use Rattle.std.proofs.Common.{◌≡◌, drop, length}
use Rattle.sequential_fire.proofs.SumRows.{IsSumOf}
use Rattle.sequential_fire.proofs.summing.sum_of.Given as goal

abbrev pub invariant-loop-place : goal.invariant-loop-place
invariant-loop-place l =
    record {
      end : l.place-end ≡ length l.items;
      sum : IsSumOf l.items (drop l.place l.items) l.sum;
    }
