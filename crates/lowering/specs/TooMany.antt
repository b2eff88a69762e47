-- Which programs have no unit, as its table or its graphs would be too large; the line is that of the function in which this shows.
use Rattle.std.specs.Prelude.{ℕ, suc, ◌+◌, Bool, ◌||◌, nat_lt, List, [], ◌∷◌, length, Option, Some, None, if◌then◌else◌}
use Rattle.std.specs.List.{list_any}
use Rattle.typed_tree.specs.declared.program.Function.{Function}
use Rattle.typed_tree.specs.declared.program.Program.{Program}
use Rattle.lowering.specs.declared.feed.Wire.{Wire}
use Rattle.lowering.specs.declared.graph.Action.{Action}
use Rattle.lowering.specs.declared.graph.Action.TheVariants.{Whole}
use Rattle.lowering.specs.declared.graph.LoweredNode.{LoweredNode}
use Rattle.lowering.specs.declared.graph.LoweredGraph.{LoweredGraph}
use Rattle.lowering.specs.declared.graph.Lowered.{Lowered}
use Rattle.lowering.specs.Graphs.{size, closed_graphs}
use Rattle.lowering.specs.Programs.{functions_lowered}
use Rattle.lowering.specs.Types.{Table, Need, basics, needs}

-- at most so many types in a unit, nodes in a graph, and graphs and ports in a unit
abbrev pub most_types : ℕ
most_types = 65535

abbrev pub most_nodes : ℕ
most_nodes = 65535

abbrev pub most_graphs : ℕ
most_graphs = 4194304

abbrev pub most_ports : ℕ
most_ports = 2147483647

-- the line of the header or body that needs one type more
abbrev pub types_over : List Need → Table → Option ℕ
types_over [] ts = None
types_over (n ∷ ns) ts = if nat_lt most_types (length (n.enters ts)) then Some n.line else types_over ns (n.enters ts)

-- one of the graphs of a function is too large
abbrev pub is_large : Lowered → Bool
is_large m = list_any (λ g. nat_lt most_nodes (length g.nodes)) (closed_graphs [] 0 0 (m ∷ []))

-- ---- ports, which have numbers; those of fields and tags are no more than the types of a unit, where each is an entry

-- A node counts one, and what fills its ports. Where it has graphs inside, what it gives counts in place of that, since it takes no
-- more than these use.
abbrev pub node_ports : Action → List Wire → ℕ
node_ports (Whole c gs arms given outs) ins = suc outs
node_ports a ins = suc (length ins)

abbrev pub all_node_ports : List LoweredNode → ℕ
all_node_ports [] = 0
all_node_ports (v ∷ vs) = node_ports v.action v.ins + all_node_ports vs

-- those of the nodes of graphs, and their results
abbrev pub graph_ports : List LoweredGraph → ℕ
graph_ports [] = 0
graph_ports (d ∷ ds) = all_node_ports d.nodes + length d.results + graph_ports ds

-- the parameters and results of functions
abbrev pub header_ports : List Function → ℕ
header_ports [] = 0
header_ports (f ∷ fs) = length f.params + length f.results + header_ports fs

-- The line of the first function that has such a graph, or whose graphs, with so many of the functions before it, are too many, or
-- whose ports, with so many before them.
abbrev pub graphs_over : List Function → List Lowered → (graphs ports : ℕ) → Option ℕ
graphs_over [] ms graphs ports = None
graphs_over (f ∷ fs) [] graphs ports = None
graphs_over (f ∷ fs) (m ∷ ms) graphs ports =
    let all_graphs = graphs + size m in
    let all_ports = ports + graph_ports (closed_graphs [] 0 0 (m ∷ [])) in
    if is_large m || (nat_lt most_graphs all_graphs || nat_lt most_ports all_ports) then Some f.line else graphs_over fs ms all_graphs all_ports

abbrev pub or_else : Option ℕ → Option ℕ → Option ℕ
or_else None other = other
or_else (Some l) other = Some l

-- the line of the function in which graphs or ports show to be too large or too many
abbrev pub program_over : Program → Option ℕ
program_over p = graphs_over p.functions (functions_lowered p) 0 (header_ports p.functions)

-- types are looked at first
abbrev pub too_many : Program → Option ℕ
too_many p = or_else (types_over (needs p) basics) (program_over p)
