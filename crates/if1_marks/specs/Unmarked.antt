-- Units without their marks.
use Rattle.std.specs.Prelude.{false, [], map}
use Rattle.if1_graph.specs.declared.graph.Edge.{Edge}
use Rattle.if1_graph.specs.declared.graph.Graph.{Graph}
use Rattle.if1_graph.specs.declared.graph.Graph.TheViews.{roll-Graph}
use Rattle.if1_graph.specs.declared.graph.Graph.TheOpen.{Graph-F, Node-F}
use Rattle.if1_graph.specs.declared.graph.Graph.TheFolds.{fold-Graph, fold-Node}
use Rattle.if1_graph.specs.declared.graph.Node.{Node, roll-Node}
use Rattle.if1_graph.specs.declared.graph.Unit1.{Unit1}
use Rattle.if1_graph.specs.Units.{Home, Function, Inside, Place}

-- an edge that does not take
abbrev pub untaken : Edge → Edge
untaken e = record e { takes = false }

abbrev pub with_edges : Graph-F Graph Node → Graph
with_edges g = roll-Graph (record { number = g.number; exported = g.exported; name = g.name; fun = g.fun; nodes = g.nodes; edges = map untaken g.edges })

abbrev pub without_list : Node-F Graph Node → Node
without_list n = roll-Node (record { label = n.label; op = n.op; subs = n.subs; assoc = n.assoc; before = []; name = n.name })

-- no edge takes and no node has an ordering list, at any depth
abbrev pub unmarked : Graph → Graph
unmarked = fold-Graph Graph Node with_edges without_list

abbrev pub unmarked_node : Node → Node
unmarked_node = fold-Node Graph Node with_edges without_list

abbrev pub unmarked_unit : Unit1 → Unit1
unmarked_unit u = record { types = u.types; imports = u.imports; graphs = map unmarked u.graphs }

abbrev pub unmarked_home : Home → Home
unmarked_home (Function k) = Function k
unmarked_home (Inside outer n k) = Inside (unmarked outer) (unmarked_node n) k

abbrev pub unmarked_place : Place → Place
unmarked_place p = record { graph = unmarked p.graph; home = unmarked_home p.home }
