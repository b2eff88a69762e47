-- Flags of the edges of a unit, a row for each number of a graph and a flag for each of its edges.
use Rattle.std.specs.Prelude.{◌≡◌, ◌&&◌, ℕ, Bool, List, [], ◌∷◌, map, slice_get, slice_index_or, Option, Some, Contains}
use Rattle.if1_graph.specs.declared.graph.Edge.{Edge}
use Rattle.if1_graph.specs.declared.graph.Graph.{Graph}
use Rattle.if1_graph.specs.declared.graph.Graph.TheViews.{out-Graph}
use Rattle.if1_graph.specs.declared.graph.Node.{Node, out-Node}
use Rattle.if1_graph.specs.declared.graph.TypeEntry.{TypeEntry}
use Rattle.if1_graph.specs.declared.graph.Unit1.{Unit1}
use Rattle.if1_graph.specs.Formed.{IsFormed}
use Rattle.if1_graph.specs.Normal.{IsNormal}
use Rattle.if1_graph.specs.declared.op.Simple.{Simple}
use Rattle.if1_graph.specs.Ops.{simple_at}
use Rattle.if1_graph.specs.Tables.{◌>>=◌}
use Rattle.if1_graph.specs.Units.{Place, edge_into, number_of, places}
use Rattle.if1_marks.specs.Aggregates.{is_aggregate}
use Rattle.if1_marks.specs.Given.{is_consuming}
use Rattle.graph_meaning.specs.StorageUnits.{storage_of}

-- of each edge whether it carries an aggregate
abbrev pub aggregates_in : List TypeEntry → List Edge → List Bool
aggregates_in ts es = map (λ e. is_aggregate ts e.ty) es

abbrev pub aggregates_of : List TypeEntry → Graph → List Bool
aggregates_of ts g = aggregates_in ts (out-Graph g).edges

-- each graph has its flags in the row of its number
abbrev pub AreRows : Unit1 → (Graph → List Bool) → List (List Bool) → Type 0
AreRows u flags rows = (p : Place) → Contains (places u) p → slice_index_or rows (number_of p) [] ≡ flags p.graph

-- In the row of a graph's number, what is known of a port stands at the place of the edge that is found at the port.
abbrev pub AreFlags : Unit1 → (known : (graph node port : ℕ) → Bool) → List (List Bool) → Type 0
AreFlags u known rows =
    (p : Place) → Contains (places u) p → (l port i : ℕ) (e : Edge) → edge_into p.graph l port ≡ Some e → slice_get (out-Graph p.graph).edges i ≡ Some e
    → slice_get (slice_index_or rows (number_of p) []) i ≡ Some (known (number_of p) l port)

-- a port takes if the edge that is found there does
abbrev pub DoMarksTell : Type 0
DoMarksTell =
    (u : Unit1) → IsFormed u → (p : Place) → Contains (places u) p → (l port : ℕ) (e : Edge) → edge_into p.graph l port ≡ Some e
    → (storage_of u).is_taken (number_of p) l port ≡ e.takes

-- an aggregate is consumed at a port if the edge that is found there consumes
abbrev pub DoConsumersTell : Type 0
DoConsumersTell =
    (u : Unit1) → IsFormed u → (p : Place) → Contains (places u) p → (l port : ℕ) (e : Edge) → edge_into p.graph l port ≡ Some e
    → (storage_of u).is_aggregate (number_of p) l port && (storage_of u).is_given (number_of p) l port ≡ is_consuming u p.graph e

-- of each edge of a graph whether it consumes
abbrev pub consumers_of : Unit1 → Graph → List Bool
consumers_of u g = map (is_consuming u g) (out-Graph g).edges

-- so rows with these flags tell of each port with an edge whether an aggregate is consumed there
abbrev pub DoConsumerRowsTell : Type 0
DoConsumerRowsTell =
    (u : Unit1) → IsFormed u → (rows : List (List Bool)) → AreRows u (consumers_of u) rows
    → AreFlags u (λ k l port. (storage_of u).is_aggregate k l port && (storage_of u).is_given k l port) rows

-- flags that stand in the order of the graphs, behind a first row, are in the rows of the graphs' numbers
abbrev pub DoRowsStand : Type 0
DoRowsStand = (u : Unit1) → IsFormed u → IsNormal u → (flags : Graph → List Bool) → AreRows u flags ([] ∷ map (λ p. flags p.graph) (places u))

-- what a node does, if it is a simple one
abbrev pub operation_by : Option Node → Option Simple
operation_by o = o >>= λ n. simple_at (out-Node n).op
