-- Whether a unit has marks: an edge that takes, or an ordering list, at any depth.
use Rattle.std.specs.Prelude.{ℕ, Bool, ◌||◌, List, length, nat_lt}
use Rattle.std.specs.List.{list_any}
use Rattle.if1_graph.specs.declared.graph.Graph.{Graph}
use Rattle.if1_graph.specs.declared.graph.Graph.TheOpen.{Graph-F, Node-F}
use Rattle.if1_graph.specs.declared.graph.Graph.TheFolds.{fold-Graph, fold-Node}
use Rattle.if1_graph.specs.declared.graph.Node.{Node}
use Rattle.if1_graph.specs.declared.graph.Unit1.{Unit1}

-- an ordering list has a label
abbrev pub is_some_label : List ℕ → Bool
is_some_label labels = nat_lt 0 (length labels)

abbrev pub itself : Bool → Bool
itself b = b

-- by what is so of the nodes, and of the graphs inside a node
abbrev pub graph_step : Graph-F Bool Bool → Bool
graph_step g = list_any (λ e. e.takes) g.edges || list_any itself g.nodes

abbrev pub node_step : Node-F Bool Bool → Bool
node_step n = is_some_label n.before || list_any itself n.subs

abbrev pub is_marked : Graph → Bool
is_marked = fold-Graph Bool Bool graph_step node_step

abbrev pub is_marked_node : Node → Bool
is_marked_node = fold-Node Bool Bool graph_step node_step

abbrev pub has_marks : Unit1 → Bool
has_marks u = list_any is_marked u.graphs
