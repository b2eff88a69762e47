-- The unit of a program: lowered graphs with the labels of the table of types (IF1 manual M-170, text form).
use Rattle.std.specs.Prelude.{◌≡◌, ℕ, suc, ◌+◌, true, false, nat_eq, List, [], ◌∷◌, ◌++◌, map, get_or, slice_get, Option, Some, None}
use Rattle.std.specs.List.{list_any}
use Rattle.flow_value.specs.declared.operation.Scalar1.{Scalar1}
use Rattle.flow_value.specs.declared.operation.Scalar1.TheVariants as unary
use Rattle.flow_value.specs.declared.operation.Scalar2.{Scalar2}
use Rattle.flow_value.specs.declared.operation.Scalar2.TheVariants as two
use Rattle.flow_value.specs.declared.value.Val.TheOpen.{Val-F}
use Rattle.sisal_tree.specs.declared.expr.Constant.{Constant}
use Rattle.sisal_tree.specs.declared.expr.Constant.TheVariants as constant
use Rattle.typed_tree.specs.declared.expr.TypedExpr.{TypedExpr}
use Rattle.typed_tree.specs.declared.program.Function.{Function}
use Rattle.typed_tree.specs.declared.program.Program.{Program}
use Rattle.if1_graph.specs.declared.graph.Edge.{Edge}
use Rattle.if1_graph.specs.declared.graph.Origin.{Origin}
use Rattle.if1_graph.specs.declared.graph.Origin.TheVariants as origin
use Rattle.if1_graph.specs.declared.graph.TypeEntry.{TypeEntry}
use Rattle.if1_graph.specs.declared.graph.Unit1.{Unit1}
use Rattle.if1_graph.specs.declared.op.Grouping.TheVariants as grouping
use Rattle.if1_graph.specs.declared.op.Simple.{Simple}
use Rattle.if1_graph.specs.declared.op.Simple.TheVariants as simple
use Rattle.if1_graph.specs.declared.op.Compound.{Compound}
use Rattle.if1_graph.specs.declared.op.Compound.TheVariants as compound
use Rattle.if1_graph.specs.Literals.{scalar_text}
use Rattle.lowering.specs.declared.feed.Feed.{Feed}
use Rattle.lowering.specs.declared.feed.Feed.TheVariants.{Literal, Named, Absent, Port}
use Rattle.lowering.specs.declared.feed.Carried.TheVariants.{Callee}
use Rattle.lowering.specs.declared.feed.Wire.{Wire}
use Rattle.lowering.specs.declared.graph.Action.{Action}
use Rattle.lowering.specs.declared.graph.Action.TheVariants.{Row, Call, Whole}
use Rattle.lowering.specs.declared.graph.LoweredNode.{LoweredNode}
use Rattle.lowering.specs.declared.graph.LoweredGraph.{LoweredGraph}
use Rattle.lowering.specs.declared.graph.Lowered.{Lowered}
use Rattle.lowering.specs.Graphs.{size, closed}
use Rattle.lowering.specs.Programs.{functions_lowered}
use Rattle.lowering.specs.Types.{Table, table, label_of, header_label}
use Rattle.lowered_units.specs.Listed.{ListedNode, ListedGraph, Listing, listing}

-- ---- opcodes

abbrev pub unary_code : Scalar1 → ℕ
unary_code unary.Neg = 137
unary_code unary.Abs = 117
unary_code unary.Not = 139
unary_code unary.Int = 129
unary_code unary.Bool = 119
unary_code unary.Char = 121
unary_code unary.IsError = 130

abbrev pub binary_code : Scalar2 → ℕ
binary_code two.Plus = 141
binary_code two.Minus = 135
binary_code two.Times = 152
binary_code two.Div = 122
binary_code two.Mod = 136
binary_code two.Max = 133
binary_code two.Min = 134
binary_code two.Equal = 124
binary_code two.NotEqual = 140
binary_code two.Less = 131
binary_code two.LessEqual = 132

abbrev pub simple_code : Simple → ℕ
simple_code (simple.One f) = unary_code f
simple_code (simple.Two f) = binary_code f
simple_code simple.NoOp = 138
simple_code simple.Error = 155
simple_code simple.Call = 120
simple_code simple.ABuild = 103
simple_code simple.AFill = 106
simple_code simple.AElement = 105
simple_code simple.AReplace = 113
simple_code simple.AAddH = 100
simple_code simple.AAddL = 101
simple_code simple.ARemH = 111
simple_code simple.ARemL = 112
simple_code simple.ASetL = 115
simple_code simple.AAdjust = 102
simple_code simple.ALimL = 110
simple_code simple.ALimH = 109
simple_code simple.ASize = 116
simple_code simple.AIsEmpty = 108
simple_code simple.ACatenate = 104
simple_code simple.FirstValue = 126
simple_code simple.RestValues = 150
simple_code simple.RBuild = 143
simple_code simple.RElements = 144
simple_code simple.RReplace = 145
simple_code simple.RangeGenerate = 142
simple_code simple.AScatter = 114
simple_code simple.AGather = 107
simple_code simple.FinalValue = 127
simple_code (simple.Reduce grouping.Free) = 149
simple_code (simple.Reduce grouping.Left) = 146
simple_code (simple.Reduce grouping.Right) = 147
simple_code (simple.Reduce grouping.Tree) = 148

abbrev pub compound_code : Compound → ℕ
compound_code compound.ForAll = 0
compound_code compound.Select = 1
compound_code compound.TagCase = 2
compound_code compound.LoopA = 3
compound_code compound.LoopB = 4

-- ---- literals

-- the canonical spelling of a constant; a text is no literal
abbrev pub constant_text : Constant → List ℕ
constant_text (constant.Integer n) = scalar_text (Val-F.Int n)
constant_text (constant.Letter c) = scalar_text (Val-F.Char c)
constant_text (constant.Quoted s) = []
constant_text constant.True = scalar_text (Val-F.Bool true)
constant_text constant.False = scalar_text (Val-F.Bool false)
constant_text constant.Nil = scalar_text Val-F.Null

-- where an edge comes from, where the port is filled
abbrev pub origin_of : Feed → Option Origin
origin_of (Literal c) = Some (origin.Lit (constant_text c))
origin_of (Named text) = Some (origin.Lit text)
origin_of Absent = None
origin_of (Port up n p) = Some (origin.Port n p)

-- ---- edges and nodes

abbrev pub edge : ℕ → ℕ → ℕ → Origin → Edge
edge node port ty o = record { from = o; node = node; port = port; ty = ty; takes = false; name = [] }

abbrev pub edge_if : ℕ → ℕ → ℕ → Option Origin → List Edge
edge_if node port ty None = []
edge_if node port ty (Some o) = edge node port ty o ∷ []

-- the name of a function
abbrev pub name_of : Program → Function → List ℕ
name_of p f = get_or p.names f.name []

abbrev pub called_name : Program → Option Function → List ℕ
called_name p None = []
called_name p (Some f) = name_of p f

abbrev pub simple_node : ℕ → ℕ → ListedNode
simple_node label op = record { label = label; op = op; parts = []; assoc = []; before = []; name = [] }

abbrev pub listed_node : ℕ → Action → ListedNode
listed_node label (Row op) = simple_node label (simple_code op)
listed_node label (Call f) = simple_node label (simple_code simple.Call)
listed_node label (Whole c graphs arms given outputs) = record { label = label; op = compound_code c; parts = graphs; assoc = arms; before = []; name = [] }

-- nodes from a label on
abbrev pub listed_nodes : ℕ → List LoweredNode → List ListedNode
listed_nodes label [] = []
listed_nodes label (v ∷ vs) = listed_node label v.action ∷ listed_nodes (suc label) vs

-- in a program
module _ (p : Program) where
  -- the edges and literals into the ports of a node, or of the boundary for 0, from a port on
  abbrev pub edges_into : ℕ → ℕ → List Wire → List Edge
  edges_into node port [] = []
  edges_into node port (w ∷ ws) = edge_if node port (label_of p w.ty) (origin_of w.feed) ++ edges_into node (suc port) ws

  -- a call has the name of the function at port 1, and its arguments from port 2 on
  abbrev pub node_edges : ℕ → Action → List Wire → List Edge
  node_edges node (Call f) ws =
      edge node 1 (label_of p (Callee f)) (origin.Lit (called_name p (slice_get p.functions f))) ∷ edges_into node 2 ws
  node_edges node a ws = edges_into node 1 ws

  -- nodes by rising label, the boundary last
  abbrev pub edges_of : ℕ → List LoweredNode → List Wire → List Edge
  edges_of label [] results = edges_into 0 1 results
  edges_of label (v ∷ vs) results = node_edges label v.action v.ins ++ edges_of (suc label) vs results

  -- ---- graphs

  -- a graph of this number inside of a node
  abbrev pub inner_graph : ℕ → LoweredGraph → ListedGraph
  inner_graph number d = record {
    number = number;
    exported = false;
    name = [];
    fun = 0;
    nodes = listed_nodes 1 d.nodes;
    edges = edges_of 1 d.nodes d.results;
  }

  abbrev pub inner_graphs : ℕ → List LoweredGraph → Listing
  inner_graphs number [] = []
  inner_graphs number (d ∷ ds) = inner_graph number d ∷ inner_graphs (suc number) ds

  -- the graph of the function of a place
  abbrev pub function_graph : ℕ → Function → ℕ → LoweredGraph → ListedGraph
  function_graph place f number d =
      record (inner_graph number d) { exported = list_any (nat_eq place) p.defines; name = name_of p f; fun = header_label p f }

  -- each function with the graphs inside of it, the first at this place and of this number
  abbrev pub function_listings : ℕ → ℕ → List Function → List Lowered → List Listing
  function_listings place number [] ms = []
  function_listings place number (f ∷ fs) [] = []
  function_listings place number (f ∷ fs) (m ∷ ms) =
      (function_graph place f number (closed [] 0 0 m) ∷ inner_graphs (suc number) m.graphs) ∷ function_listings (suc place) (number + size m) fs ms

  -- ---- types and functions of other texts

  abbrev pub entries_from : ℕ → Table → List TypeEntry
  entries_from label [] = []
  entries_from label (e ∷ es) = record { label = label; code = e.code; first = e.first; second = e.second; name = e.name } ∷ entries_from (suc label) es

  abbrev pub import_if : Function → Option (List TypedExpr) → List (ℕ × List ℕ)
  import_if f None = (header_label p f, name_of p f) ∷ []
  import_if f (Some es) = []

  abbrev pub imports_of : List Function → List (ℕ × List ℕ)
  imports_of [] = []
  imports_of (f ∷ fs) = import_if f f.body ++ imports_of fs

-- The unit is that of the program: its types are the table of the program, its imports the functions that another text has, and its
-- graphs, as the text lists them, the lowered graphs of each function.
pub record IsTranslated (p : Program) (u : Unit1) : Type 0 where
  pub types : u.types ≡ entries_from p 1 (table p)
  pub imports : u.imports ≡ imports_of p p.functions
  pub graphs : map listing u.graphs ≡ function_listings p 0 1 p.functions (functions_lowered p)
