use Rattle.std.proofs.Common.{◌≡◌, take}
use Rattle.may_take.specs.Uses.{AreKnown}
use Rattle.may_take.proofs.units.functions_of.Given as goal

abbrev pub invariant-loop-graph : goal.invariant-loop-graph
invariant-loop-graph l = record { known : AreKnown l.unit (take l.graph-index l.unit.graphs) l.functions; asked : l.functions.asked ≡ l.fn.asked }
