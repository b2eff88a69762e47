-- Outputs of the nodes of a graph, by label and port.
use Rattle.std.specs.Prelude.{◌≡◌, ℕ, ◌&&◌, nat_eq, Bool, List}
use Rattle.std.specs.List.{list_any}
use Rattle.if1_graph.specs.declared.graph.Graph.{Graph}
use Rattle.if1_graph.specs.declared.graph.Graph.TheViews.{out-Graph}
use Rattle.if1_graph.specs.declared.graph.TypeEntry.{TypeEntry}
use Rattle.if1_graph.specs.Ports.{leaves}
use Rattle.if1_marks.specs.Aggregates.{is_aggregate}

abbrev pub has_output : List (ℕ × ℕ) → (node port : ℕ) → Bool
has_output outputs l port = list_any (λ x. nat_eq l x.0 && nat_eq port x.1) outputs

-- an edge of an aggregate leaves this output
abbrev pub hands_aggregate : List TypeEntry → Graph → (node port : ℕ) → Bool
hands_aggregate ts g l port = list_any (λ e. leaves l port e.from && is_aggregate ts e.ty) (out-Graph g).edges

-- these are the outputs that such edges leave
abbrev pub AreAggregates : List TypeEntry → Graph → List (ℕ × ℕ) → Type 0
AreAggregates ts g outputs = (l port : ℕ) → has_output outputs l port ≡ hands_aggregate ts g l port
