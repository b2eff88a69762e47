use Rattle.std.proofs.Common.{◌≡◌, map, take}
use Rattle.may_take.specs.Consuming.{is_consuming_by}
use Rattle.may_take.proofs.consuming.consuming_by.Given as goal

abbrev pub invariant-loop-edge : goal.invariant-loop-edge
invariant-loop-edge l = l.flags ≡ map (is_consuming_by l.types l.functions l.labels l.uses) (take l.edge-index l.edges)
