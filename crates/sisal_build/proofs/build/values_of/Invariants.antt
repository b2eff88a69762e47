use Rattle.std.proofs.Common.{◌≡◌, ◌≤◌, Some, drop, length, take}
use Rattle.pushdown.specs.Meaning.{reads, run}
use Rattle.sisal_grammar.specs.Acts.{sisal}
use Rattle.sisal_grammar.specs.Placed.{placed}
use Rattle.sisal_grammar.specs.Plan.{plan}
use Rattle.sisal_build.proofs.build.values_of.Given as goal

abbrev pub invariant-loop-k : goal.invariant-loop-k
invariant-loop-k l = record {
  within : l.k ≤ length l.steps;
  place : l.left ≡ reads (take l.k l.steps);
  values : run sisal plan (drop l.k l.steps) (drop l.left (placed 0 l.tokens)) ≡ Some l.values;
}

abbrev pub decreases-loop-k : goal.decreases-loop-k
decreases-loop-k l = l.k
