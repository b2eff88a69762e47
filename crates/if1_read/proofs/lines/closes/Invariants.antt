use Rattle.std.proofs.Common.{◌≡◌, drop}
use Rattle.if1_read.specs.Faults.{closes}
use Rattle.if1_read.proofs.lines.closes.Given as goal

abbrev pub invariant-loop-c : goal.invariant-loop-c
invariant-loop-c l = closes (drop l.c-index l.line) ≡ closes l.line
