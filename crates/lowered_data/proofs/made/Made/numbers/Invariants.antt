use Rattle.std.proofs.Common.{◌≡◌, take}
use Rattle.lowered_data.specs.States.{numbered}
use Rattle.lowered_data.proofs.made.Made.numbers.Given as goal

abbrev pub invariant-loop-place : goal.invariant-loop-place
invariant-loop-place l = l.numbers ≡ numbered l.self.first (take l.place l.places)
