use Rattle.std.proofs.Common.{drop}
use Rattle.sequential_loops.specs.Putting.{IsReadIn}
use Rattle.sequential_loops.proofs.once.are_apart.Given as goal

-- whether what is left reads the column decides
abbrev pub invariant-loop-collect : goal.invariant-loop-collect
invariant-loop-collect l = IsReadIn l.collects l.column → IsReadIn (drop l.collect-index l.collects) l.column
