use Rattle.std.proofs.Common.{◌≡◌, ◌≤◌, ◌+◌, ◌-◌, true, drop, length, get_or}
use Rattle.graph_meaning.specs.Storage.{capped, leaves_at}
use Rattle.sequential.specs.Agrees.{owned_all}
use Rattle.sequential_fire.proofs.counting.marked.Given as goal

abbrev pub invariant-loop-place : goal.invariant-loop-place
invariant-loop-place l =
    record {
      end : l.place-end ≡ length l.made;
      small : l.sum ≤ 18446744073709551615;
      total : capped (l.sum + leaves_at (λ port. get_or l.marks (port - 1) true) (l.place + 1) (owned_all (drop l.place l.made)))
          ≡ capped (leaves_at (λ port. get_or l.marks (port - 1) true) 1 (owned_all l.made));
    }
