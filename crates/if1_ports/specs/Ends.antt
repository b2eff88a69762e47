-- The ports of one node or boundary of a graph, tested by what is known of types and of what is around the graph.
use Rattle.std.specs.Prelude.{◌≡◌, ℕ, zero, suc, ◌==◌, ◌&&◌, ◌<◌, ◌≤◌, ◌⊎◌, ◌++◌, slice_index, slice_index_or, slice_set, Contains, Bool, true, false, nat_le, List, [], ◌∷◌, map, filter, length, All, AllPairs, Option, Some, None, option_map, if◌then◌else◌}
use Rattle.std.specs.List.{list_all}
use Rattle.std.specs.List.Sorted.{IsStrictlyIncreasing}
use Rattle.if1_graph.specs.declared.graph.Graph.{Graph}
use Rattle.if1_graph.specs.declared.graph.Graph.TheViews.{out-Graph}
use Rattle.if1_graph.specs.declared.graph.Node.{Node, out-Node}
use Rattle.if1_graph.specs.declared.graph.Edge.{Edge}
use Rattle.if1_graph.specs.declared.graph.Origin.{Origin}
use Rattle.if1_graph.specs.declared.graph.Origin.TheVariants.{Port, Lit}
use Rattle.if1_graph.specs.declared.op.Compound.{Compound}
use Rattle.if1_graph.specs.declared.op.Simple.{Simple}
use Rattle.if1_graph.specs.declared.row.Gives.{Gives}
use Rattle.if1_graph.specs.declared.row.Gives.TheVariants.{One, Pair, Results, AllFields}
use Rattle.if1_graph.specs.Ops.{simple_at, compound_at}
use Rattle.if1_graph.specs.Rows.{row_of}
use Rattle.if1_graph.specs.Units.{label_of, node_at, edges_into, ends}
use Rattle.if1_graph.specs.Ports.{leaves, compound_outputs}
use Rattle.if1_graph.specs.Normal.{Precedes}
use Rattle.if1_ports.specs.declared.fed.Fed.{Fed}
use Rattle.if1_ports.specs.declared.around.Bounds.{Bounds}
use Rattle.if1_ports.specs.declared.ends.Outs.{Outs}
use Rattle.if1_ports.specs.Outlines.{results_in, fields_in}
use Rattle.if1_ports.specs.Fed.{Types, Callees, fed_by}
use Rattle.if1_ports.specs.Simple.{exactly, is_simple_filled}
use Rattle.if1_ports.specs.Compound.{is_compound_filled}

-- the types of the edges that leave port 1 of a node
abbrev pub leaving : List Edge → ℕ → List ℕ
leaving es l = map (λ e. e.ty) (filter (λ e. leaves l 1 e.from) es)

-- what leads into a node of a graph
abbrev pub fed_at : Types → Callees → Graph → ℕ → Fed
fed_at o c g l = fed_by o c (edges_into g l)

-- ---- outputs

abbrev pub given_by : Fed → Gives → Option ℕ
given_by f (One a) = Some 1
given_by f (Pair a b) = Some 2
given_by f Results = results_in f.callee
given_by f AllFields = fields_in f.carries

abbrev pub outputs_as : Fed → Node → Option Compound → Option Simple → Option ℕ
outputs_as f n (Some c) op = Some (compound_outputs c (out-Node n).subs)
outputs_as f n None (Some op) = given_by f (row_of op).gives
outputs_as f n None None = None

abbrev pub outputs_by : Fed → Node → Option ℕ
outputs_by f n = outputs_as f n (compound_at (out-Node n).op) (simple_at (out-Node n).op)

-- the number of outputs of a node of the graph, where it is known
abbrev pub outputs_in : Types → Callees → Graph → Node → Option ℕ
outputs_in o c g n = outputs_by (fed_at o c g (label_of n)) n

-- what a table has beside a label
abbrev pub count_at : List ℕ → List (Option ℕ) → ℕ → Option (Option ℕ)
count_at [] cs l = None
count_at (x ∷ xs) [] l = None
count_at (x ∷ xs) (c ∷ cs) l = if x == l then Some c else count_at xs cs l

-- ---- sources

abbrev pub is_up_to : Option ℕ → ℕ → Bool
is_up_to None port = true
is_up_to (Some n) port = nat_le port n

abbrev pub is_up_to_one : Option (Option ℕ) → ℕ → Bool
is_up_to_one None port = false
is_up_to_one (Some n) port = is_up_to n port

-- an edge comes from a port that is there, by the numbers of outputs and inputs
abbrev pub comes : (ℕ → Option (Option ℕ)) → Option ℕ → Origin → Bool
comes outs inputs (Lit text) = true
comes outs inputs (Port zero port) = is_up_to inputs port
comes outs inputs (Port (suc l) port) = is_up_to_one (outs (suc l)) port

abbrev pub all_come : (ℕ → Option (Option ℕ)) → Option ℕ → List Edge → Bool
all_come outs inputs es = list_all (λ e. comes outs inputs e.from) es

-- ---- ends

abbrev pub is_filled_as : Types → Fed → List ℕ → Node → Option Compound → Option Simple → Bool
is_filled_as o f types n (Some c) op = is_compound_filled f c (length (out-Node n).subs) (out-Node n).assoc
is_filled_as o f types n None (Some op) = is_simple_filled o f types op (length (out-Node n).subs) (length (out-Node n).assoc)
is_filled_as o f types n None None = false

abbrev pub is_node_filled : Types → Fed → List ℕ → Node → Bool
is_node_filled o f types n = is_filled_as o f types n (compound_at (out-Node n).op) (simple_at (out-Node n).op)

abbrev pub outs_in : Types → Callees → Graph → ℕ → Option (Option ℕ)
outs_in o c g l = option_map (outputs_in o c g) (node_at (out-Graph g).nodes l)

abbrev pub is_end_filled : Types → Callees → Bounds → Graph → ℕ → Option Node → Bool
is_end_filled o c b g l (Some n) = is_node_filled o (fed_at o c g l) (leaving (out-Graph g).edges l) n
is_end_filled o c b g zero None = exactly (fed_at o c g 0) b.results
is_end_filled o c b g (suc l) None = false

-- the ports of a node, or those of the boundary for 0, are right
abbrev pub is_right : Types → Callees → Bounds → Graph → ℕ → Bool
is_right o c b g l =
    is_end_filled o c b g l (node_at (out-Graph g).nodes l) && all_come (outs_in o c g) b.inputs (edges_into g l)

-- ---- graphs in order

-- nodes stand by rising label from 1 on, and edges by the nodes and ports to which they lead
pub record IsInOrder (g : Graph) : Type 0 where
  pub rising : IsStrictlyIncreasing (map label_of (out-Graph g).nodes)
  pub labels : All (λ n. 1 ≤ label_of n) (out-Graph g).nodes
  pub edges : AllPairs Precedes (out-Graph g).edges

-- the numbers of outputs of the nodes of a graph
pub record AreOuts (o : Types) (c : Callees) (g : Graph) (outs : Outs) : Type 0 where
  pub labels : outs.labels ≡ map label_of (out-Graph g).nodes
  pub counts : outs.counts ≡ map (outputs_in o c g) (out-Graph g).nodes

-- all is right, or a node or the boundary is wrong
abbrev pub FindsWrong : Types → Callees → Bounds → Graph → Option ℕ → Type 0
FindsWrong o c b g None = All (λ l. is_right o c b g l ≡ true) (ends g)
FindsWrong o c b g (Some l) = Contains (ends g) l × (is_right o c b g l ≡ false)

-- the lists of a node's types, once one more edge is noted that leaves port 1 of a node
abbrev pub IsNoted : List ℕ → ℕ → ℕ → List (List ℕ) → List (List ℕ) → Type 0
IsNoted labels l ty old new =
    ((k : ℕ) × (k < length labels) × (slice_index labels k ≡ l) × (new ≡ slice_set old k (slice_index_or old k [] ++ ty ∷ [])))
    ⊎ ((new ≡ old) × (¬ Contains labels l))
