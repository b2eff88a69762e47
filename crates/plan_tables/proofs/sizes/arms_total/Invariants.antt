use Rattle.std.proofs.Common.{◌≡◌, ◌+◌, drop}
use Rattle.plan_data.specs.Parts.{arms_steps}
use Rattle.plan_tables.specs.Above.{tabled}
use Rattle.plan_tables.proofs.sizes.arms_total.Given as goal

abbrev pub invariant-loop-arm : goal.invariant-loop-arm
invariant-loop-arm l = l.steps + arms_steps (tabled l.graphs l.sizes) (drop l.arm-index l.arms) ≡ arms_steps (tabled l.graphs l.sizes) l.arms
