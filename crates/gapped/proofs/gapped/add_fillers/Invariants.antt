use Rattle.std.proofs.Common.{◌≡◌, ◌++◌, replicate}
use Rattle.gapped.proofs.gapped.add_fillers.Given as goal

abbrev pub invariant-loop-count : goal.invariant-loop-count
invariant-loop-count g l = l.list ≡ l.fn.list ++ replicate l.count l.filler
