use Rattle.std.proofs.Common.{◌≡◌, ◌+◌, drop}
use Rattle.plan_builder.specs.Outlets.{cells_of}
use Rattle.plan_builder.proofs.outlets.cells_of.Given as goal

abbrev pub invariant-loop-place : goal.invariant-loop-place
invariant-loop-place l = l.cells + cells_of l.widths (drop l.place-index l.order) ≡ cells_of l.widths l.order
