use Rattle.std.proofs.Common.{◌≡◌, ◌≤◌, ◌-◌, ◌++◌, drop, length, map}
use Rattle.if1_graph.specs.TextLines.{lines_in}
use Rattle.if1_read.specs.Faults.{row_of}
use Rattle.if1_read.proofs.lines.read_lines.Given as goal

-- what was read, with what is still to read, is all
abbrev pub invariant-loop-end : goal.invariant-loop-end
invariant-loop-end l = record {
  rows : l.lines ++ map row_of (lines_in (drop l.at l.text)) ≡ map row_of (lines_in l.text);
  few : length l.lines ≤ l.at;
  within : l.at ≤ length l.text;
}

abbrev pub decreases-loop-end : goal.decreases-loop-end
decreases-loop-end l = length l.text - l.at
