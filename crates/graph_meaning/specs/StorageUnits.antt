-- The table of edges that copies and writes go by, read off a unit and its marks; and what a graph of the unit copies and writes
-- on its inputs.
use Rattle.std.specs.Prelude.{ℕ, Bool, true, false, ◌&&◌, List, find, Option, Some, None, ◌==◌}
use Rattle.std.specs.List.{list_any}
use Rattle.if1_graph.specs.declared.graph.Edge.{Edge}
use Rattle.if1_graph.specs.declared.graph.Graph.{Graph}
use Rattle.if1_graph.specs.declared.graph.Graph.TheViews.{out-Graph}
use Rattle.if1_graph.specs.declared.graph.Node.{out-Node}
use Rattle.if1_graph.specs.declared.graph.TypeEntry.{TypeEntry}
use Rattle.if1_graph.specs.declared.graph.Unit1.{Unit1}
use Rattle.if1_graph.specs.declared.kind.TypeKind.{TypeKind}
use Rattle.if1_graph.specs.declared.kind.TypeKind.TheVariants as kind
use Rattle.if1_graph.specs.declared.op.Simple.{Simple}
use Rattle.if1_graph.specs.declared.op.Simple.TheVariants as simple
use Rattle.if1_graph.specs.Kinds.{kind_at}
use Rattle.if1_graph.specs.Ops.{simple_at}
use Rattle.if1_graph.specs.Ports.{leaves, edges_from}
use Rattle.if1_graph.specs.Tables.{◌>>=◌}
use Rattle.if1_graph.specs.Types.{entry_at}
use Rattle.if1_graph.specs.Units.{node_at, edge_into, Place, places, number_of}
use Rattle.if1_marks.specs.Aggregates.{has_parts, kind_in, is_aggregate}
use Rattle.if1_marks.specs.Given.{consumes}
use Rattle.graph_meaning.specs.Carried.{Carried}
use Rattle.graph_meaning.specs.Networks.{network}
use Rattle.graph_meaning.specs.Storage.{Storage, Copies, Writes}

-- ---- what an edge into a port tells

-- it carries an aggregate
abbrev pub carries_aggregate : Unit1 → Option Edge → Bool
carries_aggregate u None = false
carries_aggregate u (Some e) = is_aggregate u.types e.ty

-- it takes
abbrev pub takes : Option Edge → Bool
takes None = false
takes (Some e) = e.takes

abbrev pub has_whole_elements : List TypeEntry → TypeEntry → Option TypeKind → Bool
has_whole_elements ts t (Some kind.Array) = has_parts (kind_in ts t.first)
has_whole_elements ts t (Some kind.Stream) = has_parts (kind_in ts t.first)
has_whole_elements ts t _ = false

abbrev pub elements_by : List TypeEntry → Option TypeEntry → Bool
elements_by ts None = false
elements_by ts (Some t) = has_whole_elements ts t (kind_at t.code)

-- it carries an array or stream of aggregates
abbrev pub carries_elements : Unit1 → Option Edge → Bool
carries_elements u None = false
carries_elements u (Some e) = elements_by u.types (entry_at u.types e.ty)

-- ---- what is known of outputs

-- what a node does, if it is a simple one
abbrev pub operation : Graph → ℕ → Option Simple
operation g l = node_at (out-Graph g).nodes l >>= λ n. simple_at (out-Node n).op

-- An AElement and a FirstValue give an element of what is carried into port 1, used or not. Of another output the edges tell
-- that leave it.
abbrev pub gives_aggregate : Unit1 → Graph → ℕ → ℕ → Option Simple → Bool
gives_aggregate u g l port (Some simple.AElement) = carries_elements u (edge_into g l 1)
gives_aggregate u g l port (Some simple.FirstValue) = carries_elements u (edge_into g l 1)
gives_aggregate u g l port op = list_any (λ e. is_aggregate u.types e.ty) (edges_from g l port)

abbrev pub is_catenation : Option Simple → Bool
is_catenation (Some simple.ACatenate) = true
is_catenation _ = false

-- an ACatenate takes the first output of the node
abbrev pub is_taken_on : Graph → ℕ → Bool
is_taken_on g l = list_any (λ e. e.takes && is_catenation (operation g e.node)) (edges_from g l 1)

-- ---- the table

abbrev pub test_in : Option Place → (Graph → Bool) → Bool
test_in None test = false
test_in (Some p) test = test p.graph

-- of the graph with this number
abbrev pub in_graph : Unit1 → ℕ → (Graph → Bool) → Bool
in_graph u k test = test_in (find (λ p. number_of p == k) (places u)) test

abbrev pub storage_of : Unit1 → Storage
storage_of u =
    record {
      is_aggregate = λ k l port. in_graph u k (λ g. carries_aggregate u (edge_into g l port));
      is_taken = λ k l port. in_graph u k (λ g. takes (edge_into g l port));
      is_given = λ k l port. in_graph u k (λ g. consumes u g l port);
      is_made = λ k l port. in_graph u k (λ g. gives_aggregate u g l port (operation g l));
      is_used = λ k l port. in_graph u k (λ g. list_any (λ e. leaves l port e.from) (out-Graph g).edges);
      is_joined = λ k l. in_graph u k (λ g. is_taken_on g l);
    }

-- ---- copies and writes of a unit

-- at some depth the graph of this number copies so many leaves on these inputs
abbrev pub UnitCopies : Unit1 → (graph : ℕ) → List Carried → ℕ → Type 0
UnitCopies u g ins total = (n : ℕ) × Copies (storage_of u) (network u) n g ins total

-- at some depth it writes so many elements
abbrev pub UnitWrites : Unit1 → (graph : ℕ) → List Carried → ℕ → Type 0
UnitWrites u g ins total = (n : ℕ) × Writes (storage_of u) (network u) n g ins total
