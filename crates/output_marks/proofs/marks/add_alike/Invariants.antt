use Rattle.std.proofs.Common.{◌≡◌, ◌++◌, replicate}
use Rattle.output_marks.proofs.marks.add_alike.Given as goal

abbrev pub invariant-loop : goal.invariant-loop
invariant-loop l = l.marks ≡ l.fn.marks ++ replicate l.counter l.mark
