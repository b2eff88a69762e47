use Rattle.std.proofs.Common.{ℕ, ◌+◌, ◌-◌, ◌^◌, ◌<◌, ◌≤◌}
use Rattle.plan_data.specs.Parts.{table_of}
use Rattle.unit_data.proofs.tables.count_rooms.Given as goal

abbrev pub invariant-loop-place : goal.invariant-loop-place
invariant-loop-place l = (f : ℕ) → f < l.place → table_of l.params f + table_of l.extents f ≤ 2 ^ 32 - 1
