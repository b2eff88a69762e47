-- What the table of edges tells of small graphs of a unit.
use Rattle.std.proofs.Common.{◌≡◌, ℕ, Bool, true, false, List, [], ◌∷◌, rules}
use Rattle.if1_graph.specs.declared.graph.Edge.{Edge}
use Rattle.if1_graph.specs.declared.graph.Graph.{Graph}
use Rattle.if1_graph.specs.declared.graph.Graph.TheViews as views
use Rattle.if1_graph.specs.declared.graph.Node.{Node, roll-Node, out-Node}
use Rattle.if1_graph.specs.declared.graph.Origin.TheVariants as origin
use Rattle.if1_graph.specs.declared.graph.TypeEntry.{TypeEntry}
use Rattle.if1_graph.specs.declared.graph.Unit1.{Unit1}
use Rattle.if1_graph.specs.Units.{label_of, number_of}
use Rattle.graph_meaning.specs.StorageUnits.{storage_of}

abbrev entry : ℕ → ℕ → ℕ → ℕ → TypeEntry
entry label code first second = record { label = label; code = code; first = first; second = second; name = [] }

-- integer; an array of it; an array of these; a stream of integers; a record of an integer and an array
abbrev types : List TypeEntry
types = entry 1 1 3 0 ∷ entry 2 0 1 0 ∷ entry 3 0 2 0 ∷ entry 4 6 1 0 ∷ entry 5 5 6 0 ∷ entry 6 2 1 7 ∷ entry 7 2 2 0 ∷ []

abbrev edge : Bool → ℕ → ℕ → ℕ → ℕ → ℕ → Edge
edge takes from out node to ty = record { from = origin.Port from out; node = node; port = to; ty = ty; takes = takes; name = [] }

abbrev node : ℕ → ℕ → Node
node label op = roll-Node (record { label = label; op = op; subs = []; assoc = []; before = []; name = [] })

abbrev graph : List Node → List Edge → Graph
graph nodes edges = views.roll-Graph (record { number = 1; exported = false; name = []; fun = 0; nodes = nodes; edges = edges })

abbrev unit : Graph → Unit1
unit g = record { types = types; imports = []; graphs = g ∷ [] }

out-graph : (nodes : List Node) (edges : List Edge) → views.out-Graph (graph nodes edges) ≡ record { number = 1; exported = false; name = []; fun = 0; nodes = nodes; edges = edges }
out-graph nodes edges = search (rules, views.the_lemmas)

out-node : (label op : ℕ) → out-Node (node label op) ≡ record { label = label; op = op; subs = []; assoc = []; before = []; name = [] }
out-node label op = search (rules, views.the_lemmas)

ruleset opened = (out-graph, out-node, label_of, number_of)

-- ---- elements that are handed out

-- an element of an array of arrays, which no edge leaves, and one of an array of integers
abbrev looks : Graph
looks = graph (node 1 105 ∷ node 2 105 ∷ node 3 126 ∷ []) (edge false 0 1 1 1 3 ∷ edge false 0 2 2 1 2 ∷ edge false 0 3 3 1 4 ∷ [])

an-array : (storage_of (unit looks)).is_made 1 1 1 ≡ true
an-array = simp opened

an-integer : (storage_of (unit looks)).is_made 1 2 1 ≡ false
an-integer = simp opened

of-a-stream : (storage_of (unit looks)).is_made 1 3 1 ≡ false
of-a-stream = simp opened

-- the fields of a record: an edge leaves the array, and none the integer
abbrev parts : Graph
parts = graph (node 1 144 ∷ []) (edge false 0 1 1 1 5 ∷ edge false 1 2 0 1 2 ∷ [])

a-field : (storage_of (unit parts)).is_made 1 1 2 ≡ true
a-field = simp opened

a-used-field : (storage_of (unit parts)).is_used 1 1 2 ≡ true
a-used-field = simp opened

an-unused-field : (storage_of (unit parts)).is_used 1 1 1 ≡ false
an-unused-field = simp opened

-- ---- catenations one after another

-- the second one takes the result of the first, or not
abbrev joins : Bool → Graph
joins taken = graph (node 1 104 ∷ node 2 104 ∷ []) (edge false 0 1 1 1 2 ∷ edge false 0 2 1 2 2 ∷ edge taken 1 1 2 1 2 ∷ edge false 0 3 2 2 2 ∷ edge true 2 1 0 1 2 ∷ [])

taken-on : (storage_of (unit (joins true))).is_joined 1 1 ≡ true
taken-on = simp opened

copied-on : (storage_of (unit (joins false))).is_joined 1 1 ≡ false
copied-on = simp opened

-- the results are no catenation
taken-as-a-result : (storage_of (unit (joins true))).is_joined 1 2 ≡ false
taken-as-a-result = simp opened

-- ---- ports

taken-port : (storage_of (unit (joins true))).is_taken 1 2 1 ≡ true
taken-port = simp opened

array-port : (storage_of (unit looks)).is_aggregate 1 1 1 ≡ true
array-port = simp opened

-- there is no graph of this number
no-graph : (storage_of (unit looks)).is_aggregate 2 1 1 ≡ false
no-graph = simp opened
