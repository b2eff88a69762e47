use Rattle.std.proofs.Common.{◌≡◌, drop}
use Rattle.lowering.specs.Feeds.{outsides, distinct}
use Rattle.lowered_data.proofs.keys.Keys.add_all.Given as goal

-- what is added with what is still to be added is all
abbrev pub invariant-loop-w : goal.invariant-loop-w
invariant-loop-w l = distinct l.self (outsides (drop l.w-index l.wires)) ≡ distinct l.fn.self (outsides l.wires)
