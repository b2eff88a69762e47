use Rattle.std.proofs.Common.{◌≡◌, ◌++◌, map, take}
use Rattle.unit_data.proofs.tables.add_params.Given as goal

abbrev pub invariant-loop-own : goal.invariant-loop-own
invariant-loop-own l = l.params ≡ l.fn.params ++ map (λ x. x.all) (take l.own-index l.inputs)
