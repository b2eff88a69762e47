use Rattle.std.proofs.Common.{◌≡◌, ◌≤◌, drop, length, take}
use Rattle.pushdown.specs.Meaning.{reads}
use Rattle.sisal_depth.specs.Sizes.{sizes_of}
use Rattle.sisal_depth.proofs.walk.sizes_in.Given as goal

abbrev pub invariant-loop-k : goal.invariant-loop-k
invariant-loop-k l = record {
  within : l.k ≤ length l.steps;
  place : l.left ≡ reads (take l.k l.steps);
  values : l.sizes ≡ sizes_of (drop l.k l.steps) (drop l.left l.tokens);
}

abbrev pub decreases-loop-k : goal.decreases-loop-k
decreases-loop-k l = l.k
