use Rattle.std.proofs.Common.{◌≡◌, ◌≤◌, length, take}
use Rattle.loop_folds.proofs.over.reduce.Given as goal

abbrev pub invariant-loop-v : goal.invariant-loop-v
invariant-loop-v g l = record {
  within : l.v-index ≤ length l.vs;
  stands : g.R.Reduction.stands l.whole (take l.v-index l.vs);
  counts : g.R.Reduction.count l.whole ≡ l.v-index;
}
