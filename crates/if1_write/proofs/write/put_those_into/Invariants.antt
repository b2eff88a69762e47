use Rattle.std.proofs.Common.{◌≡◌, ◌++◌, drop}
use Rattle.std.specs.Prelude.{filter, ◌==◌}
use Rattle.std.specs.List.{flat_map}
use Rattle.if1_write.specs.Texts.{edge_text}
use Rattle.if1_write.proofs.write.put_those_into.Given as goal

abbrev pub invariant-loop-edge : goal.invariant-loop-edge
invariant-loop-edge l =
    l.to ++ flat_map edge_text (filter (λ e. e.node == l.node) (drop l.edge-index l.edges))
    ≡ l.initial.to ++ flat_map edge_text (filter (λ e. e.node == l.node) l.edges)
