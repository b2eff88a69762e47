use Rattle.std.proofs.Common.{◌≡◌, ◌≤◌, ◌-◌, length, take}
use Rattle.flow_io.specs.Bytes.{AddsOn}
use Rattle.flow_io.proofs.writing.write_all.Given as goal

-- what was written so far was taken, and no write failed
abbrev pub invariant-loop-from : goal.invariant-loop-from
invariant-loop-from g l =
    let taken = g.O.Sink.taken in
    record {
      within : l.from ≤ length l.bytes;
      taken : AddsOn (taken l.fn.to) (take l.from l.bytes) (taken l.to);
      no_fault : g.O.Sink.faults l.to ≡ g.O.Sink.faults l.fn.to;
    }

abbrev pub decreases-loop-from : goal.decreases-loop-from
decreases-loop-from g l = length l.bytes - l.from
