use Rattle.std.proofs.Common.{◌≡◌, ◌≤◌, ◌+◌, map, drop, length}
use Rattle.std.specs.List.{sum}
use Rattle.graph_meaning.specs.NodeValues.{masked}
use Rattle.graph_meaning.specs.Storage.{capped, leaves_where}
use Rattle.sequential_fire.proofs.kept.leaves_masked.Given as goal

abbrev pub invariant-loop-place : goal.invariant-loop-place
invariant-loop-place l =
    record {
      end : l.place-end ≡ length l.items;
      small : l.sum ≤ 18446744073709551615;
      total : capped (l.sum + sum (map leaves_where (masked (drop l.place l.items) (drop l.place l.masks)))) ≡ capped (sum (map leaves_where (masked l.items l.masks)));
    }
