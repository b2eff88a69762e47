use Rattle.std.proofs.Common.{◌≡◌, ◌≤◌, ◌+◌, ◌-◌, length}
use Rattle.flow_io.specs.Bytes.{TakesOff}
use Rattle.flow_io.proofs.reading.read_all.Given as goal

-- what was read so far was taken off, and no read failed
abbrev pub invariant-loop-n : goal.invariant-loop-n
invariant-loop-n g l =
    let left = g.S.Source.left in
    record {
      short : length l.text ≤ l.limit;
      taken : TakesOff (left l.fn.from) l.text (left l.from);
      no_fault : g.S.Source.faults l.from ≡ g.S.Source.faults l.fn.from;
    }

abbrev pub decreases-loop-n : goal.decreases-loop-n
decreases-loop-n g l = l.limit + 1 - length l.text
