use Rattle.std.proofs.Common.{◌≡◌, max, drop}
use Rattle.plan_data.specs.Parts.{greatest_of}
use Rattle.plan_tables.specs.Above.{roomed}
use Rattle.plan_tables.proofs.extents.arms_most.Given as goal

abbrev pub invariant-loop-arm : goal.invariant-loop-arm
invariant-loop-arm l = max l.most (greatest_of (roomed l.graphs l.extents) (drop l.arm-index l.arms)) ≡ greatest_of (roomed l.graphs l.extents) l.arms
