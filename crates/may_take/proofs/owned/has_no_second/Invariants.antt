use Rattle.std.proofs.Common.{◌≡◌, drop}
use Rattle.may_take.specs.Owned.{has_no_second}
use Rattle.may_take.proofs.owned.has_no_second.Given as goal

abbrev pub invariant-loop-edge : goal.invariant-loop-edge
invariant-loop-edge l = has_no_second (drop l.edge-index l.edges) ≡ has_no_second l.edges
