use Rattle.std.proofs.Common.{◌≡◌, length}
use Rattle.if1_read.proofs.SortedOut.{SortsAll}
use Rattle.if1_read.proofs.read.sort_out.Given as goal

abbrev pub invariant-loop-line : goal.invariant-loop-line
invariant-loop-line l = record {
  sorts : SortsAll l.number l.yielded l.sorted;
  counts : l.number ≡ length l.yielded;
}
