use Rattle.std.proofs.Common.{◌≡◌, drop}
use Rattle.lowering.specs.Feeds.{outsides, distinct}
use Rattle.lowered_data.specs.Parts.{uses_at}
use Rattle.lowered_data.proofs.keys.Keys.add_graphs.Given as goal

-- what is added with what is still to be added is all
abbrev pub invariant-loop-place : goal.invariant-loop-place
invariant-loop-place l = distinct l.self (outsides (uses_at (drop l.place-index l.places) l.graphs)) ≡ distinct l.fn.self (outsides (uses_at l.places l.graphs))
