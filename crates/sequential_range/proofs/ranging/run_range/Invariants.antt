use Rattle.std.proofs.Common.{◌≡◌, ℕ}
use Rattle.graph_meaning.specs.Storage.{capped}
use Rattle.run_store.specs.Stored as stored
use Rattle.sequential_run.specs.Writes.{ReachesWriting}
use Rattle.sequential_run.specs.Whole.{CanStep, to_come}
use Rattle.sequential_range.specs.Ranges.{IsBegun, ReachesFirst}
use Rattle.sequential_range.proofs.ranging.run_range.Given as goal

abbrev pub invariant-turns : goal.invariant-turns
invariant-turns l =
    record {
      can : CanStep l.code l.machine;
      begun : (s : stored.Stored) × IsBegun l.code l.limit l.fn.machine.pc l.fn.machine.base l.last l.machine s;
      all : (s : stored.Stored) → IsBegun l.code l.limit l.fn.machine.pc l.fn.machine.base l.last l.fn.machine s
          → (u : stored.Stored) × ReachesFirst l.code l.limit l.fn.machine.pc l.fn.machine.base l.last s u × IsBegun l.code l.limit l.fn.machine.pc l.fn.machine.base l.last l.machine u × (n : ℕ) × ReachesWriting l.code l.limit s u n × (capped n ≡ l.writes);
    }

abbrev pub decreases-turns : goal.decreases-turns
decreases-turns l = to_come l.code l.limit l.machine
