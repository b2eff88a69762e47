use Rattle.std.proofs.Common.{◌≡◌, max, drop}
use Rattle.if1_graph.specs.Units.{greatest}
use Rattle.tree_sizes.proofs.leaves.greatest.Given as goal

-- the numbers that are left decide
abbrev pub invariant-loop-number : goal.invariant-loop-number
invariant-loop-number l = greatest l.numbers ≡ max l.best (greatest (drop l.number-index l.numbers))
