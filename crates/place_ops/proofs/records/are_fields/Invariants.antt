use Rattle.std.proofs.Common.{◌≡◌, map, drop, nat_lt}
use Rattle.std.specs.List.{list_all}
use Rattle.graph_meaning.specs.Carried.{filled_from}
use Rattle.node_ops.specs.Operands.{plain}
use Rattle.place_ops.proofs.records.are_fields.Given as goal

abbrev pub invariant-loop-port : goal.invariant-loop-port
invariant-loop-port l =
    list_all (λ p. nat_lt p l.count) (filled_from 0 (map plain l.ins))
    ≡ list_all (λ p. nat_lt p l.count) (filled_from l.port (map plain (drop l.port l.ins)))
