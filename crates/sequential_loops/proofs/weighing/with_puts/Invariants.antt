use Rattle.std.proofs.Common.{◌≡◌, ◌+◌, ◌≤◌, drop, map, length}
use Rattle.graph_meaning.specs.Storage.{capped}
use Rattle.run_store.specs.Stored as stored
use Rattle.step_code.specs.Laid.{puts_of}
use Rattle.sequential.specs.Agrees.{owned_all}
use Rattle.sequential_loops.specs.Putting.{collections_of}
use Rattle.sequential_loops.proofs.weighing.with_puts.Given as goal

abbrev pub invariant-loop-place : goal.invariant-loop-place
invariant-loop-place l =
    record {
      end : l.place-end ≡ length l.collects;
      small : l.sum ≤ 18446744073709551615;
      sum : capped (l.sum + stored.put_copied (collections_of (drop l.place l.collects)) (map puts_of (drop l.place l.collects)) (owned_all l.row))
          ≡ capped (l.before + stored.put_copied (collections_of l.collects) (map puts_of l.collects) (owned_all l.row));
    }
