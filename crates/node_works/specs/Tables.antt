-- What the nodes of a unit need of its types and functions, and those of a graph of what leaves them.
use Rattle.std.specs.Prelude.{◌≡◌, ◌⊎◌, ℕ, List, [], ◌∷◌, length, filter, slice_set, Option, Some, None, bytes_eq, option_map, unwrap_or, Contains}
use Rattle.indexmap.specs.IndexMap.{get_by}
use Rattle.if1_graph.specs.declared.graph.Edge.{Edge}
use Rattle.if1_graph.specs.declared.graph.Graph.{Graph}
use Rattle.if1_graph.specs.declared.graph.Graph.TheViews.{out-Graph}
use Rattle.if1_graph.specs.declared.graph.Node.{Node}
use Rattle.if1_graph.specs.declared.graph.Unit1.{Unit1}
use Rattle.if1_graph.specs.Formed.{function_named}
use Rattle.if1_graph.specs.Ports.{arguments_of, leaves, literal_at}
use Rattle.if1_graph.specs.Tables.{◌>>=◌}
use Rattle.if1_graph.specs.Types.{Sort, sort_at}
use Rattle.if1_graph.specs.Units.{Place, label_of, places, results}
use Rattle.if1_order.specs.Feeders.{IsPlace}
use Rattle.if1_ports.specs.Outlines.{outline_of, types_in}
use Rattle.node_works.specs.declared.functions.Callee.{Callee}
use Rattle.node_works.specs.declared.tables.UnitTables.{UnitTables}

-- the graph of a place of the unit
abbrev pub IsGraphOf : Unit1 → Graph → Type 0
IsGraphOf u g = (p : Place) × Contains (places u) p × (p.graph ≡ g)

-- ---- functions

abbrev pub callee_of : Graph → Callee
callee_of g = record { number = (out-Graph g).number; results = results g }

-- the first function of a name
abbrev pub callee_named : List Graph → (name : List ℕ) → Option Callee
callee_named gs name = option_map callee_of (function_named gs name)

-- the function that the literal at port 1 of a node names
abbrev pub callee_at : List Graph → Graph → (node : ℕ) → Option Callee
callee_at gs g l = literal_at g l 1 >>= callee_named gs

-- 0 where there is none
abbrev pub number_by : Option Callee → ℕ
number_by None = 0
number_by (Some f) = f.number

abbrev pub results_by : Option Callee → ℕ
results_by None = 0
results_by (Some f) = f.results

-- how many inputs a function has, by its type
abbrev pub function_inputs : Unit1 → Graph → ℕ
function_inputs u g = unwrap_or (option_map length (arguments_of (sort_at u.types (out-Graph g).fun))) 0

-- ---- what the tables tell

pub record AreTablesOf (u : Unit1) (t : UnitTables) : Type 0 where
  pub types : (label : ℕ) → types_in t.types label ≡ outline_of (sort_at u.types label)
  pub functions : (name : List ℕ) → get_by (λ k. bytes_eq name k.items) t.functions ≡ callee_named u.graphs name

-- what they have for a name
abbrev pub named_in : UnitTables → (name : Option (List ℕ)) → Option Callee
named_in t None = None
named_in t (Some name) = get_by (λ k. bytes_eq name k.items) t.functions

-- ---- what leaves nodes

abbrev pub first_label : List Edge → Option ℕ
first_label [] = None
first_label (e ∷ es) = Some e.ty

-- the label of the type of the first of these edges that leaves port 1 of a node
abbrev pub first_leaving : List Edge → (node : ℕ) → Option ℕ
first_leaving es l = first_label (filter (λ e. leaves l 1 e.from) es)

abbrev pub output_label : Graph → Node → Option ℕ
output_label g n = first_leaving (out-Graph g).edges (label_of n)

-- what that type is
abbrev pub sort_by : Unit1 → (label : Option ℕ) → Option Sort
sort_by u o = o >>= λ l. sort_at u.types l

-- the types by the places of the nodes, once an edge of this type is noted that leaves port 1 of a node
abbrev pub IsNoted : (labels : List ℕ) → (node ty : ℕ) → (old new : List (Option ℕ)) → Type 0
IsNoted labels l ty old new = ((k : ℕ) × IsPlace labels k l × (new ≡ slice_set old k (Some ty))) ⊎ ((new ≡ old) × (¬ Contains labels l))
