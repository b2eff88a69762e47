use Rattle.std.proofs.Common.{◌≡◌, ◌++◌, drop}
use Rattle.lowering.specs.Feeds.{carried}
use Rattle.lowered_data.proofs.made.note_all.Given as goal

abbrev pub invariant-loop-w : goal.invariant-loop-w
invariant-loop-w l = l.lines ++ carried (drop l.w-index l.wires) ≡ l.fn.lines ++ carried l.wires
