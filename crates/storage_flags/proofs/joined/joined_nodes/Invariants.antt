use Rattle.std.proofs.Common.{◌≡◌, ◌&&◌, ℕ, take}
use Rattle.std.specs.List.{list_any}
use Rattle.if1_graph.specs.declared.graph.Graph.TheViews.{out-Graph}
use Rattle.if1_graph.specs.Ports.{leaves}
use Rattle.graph_meaning.specs.StorageUnits.{operation, is_catenation}
use Rattle.may_take.specs.Ports.{has}
use Rattle.storage_flags.proofs.joined.joined_nodes.Given as goal

abbrev pub invariant-loop-edge : goal.invariant-loop-edge
invariant-loop-edge l = (label : ℕ) → has l.labels label ≡ list_any (λ e. leaves label 1 e.from && (e.takes && is_catenation (operation l.graph e.node))) (take l.edge-index (out-Graph l.graph).edges)
