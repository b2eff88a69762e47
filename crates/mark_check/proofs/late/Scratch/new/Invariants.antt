use Rattle.std.proofs.Common.{◌≡◌, replicate}
use Rattle.mark_check.proofs.late.Scratch.new.Given as goal

abbrev pub invariant-loop : goal.invariant-loop
invariant-loop l = record { weights : l.weights ≡ replicate l.counter 0; stamps : l.stamps ≡ replicate l.counter 0 }
