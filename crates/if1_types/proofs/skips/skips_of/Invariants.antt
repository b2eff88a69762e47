use Rattle.std.proofs.Common.{◌≡◌, length}
use Rattle.if1_types.specs.Skips.{AreFurther}
use Rattle.if1_types.proofs.skips.skips_of.Given as goal

abbrev pub invariant-loop-list : goal.invariant-loop-list
invariant-loop-list l = record {
  count : l.list ≡ length l.skips;
  further : AreFurther l.shapes l.skips;
}
