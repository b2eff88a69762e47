-- The plan of a unit, with the nodes of each graph in an order.
--
-- A returns is done on what is collected under its own number. All else stands as it does in the unit.
use Rattle.std.specs.Prelude.{◌≡◌, ℕ, suc, ◌+◌, ◌&&◌, Bool, List, [], map, length, find, Option, Some, None, ◌==◌, unwrap_or}
use Rattle.if1_graph.specs.declared.graph.Graph.{Graph}
use Rattle.if1_graph.specs.declared.graph.Graph.TheViews.{out-Graph}
use Rattle.if1_graph.specs.declared.graph.Node.{Node, out-Node}
use Rattle.if1_graph.specs.declared.graph.Unit1.{Unit1}
use Rattle.if1_graph.specs.declared.op.Compound.{Compound}
use Rattle.if1_graph.specs.declared.op.Compound.TheVariants as compound
use Rattle.if1_graph.specs.declared.op.Part.{Part}
use Rattle.if1_graph.specs.declared.op.Part.TheVariants as part
use Rattle.if1_graph.specs.Ports.{inputs, part_of, results_at}
use Rattle.if1_graph.specs.Rows.{row_of}
use Rattle.if1_graph.specs.Units.{Home, Function, Inside, Place, label_of, number_of, places, sizes, width}
use Rattle.graph_meaning.specs.Demand.{Kind, Plain, Whole, Vertex}
use Rattle.graph_meaning.specs.Entered.{IsIn}
use Rattle.graph_meaning.specs.Forms as form
use Rattle.graph_meaning.specs.Forms.{outputs_of}
use Rattle.graph_meaning.specs.Laws.{outputs_by}
use Rattle.graph_meaning.specs.Networks.{network}
use Rattle.graph_meaning.specs.Storage.{Storage, is_left}
use Rattle.graph_meaning.specs.StorageUnits.{storage_of}
use Rattle.made_store.specs.Collections.{Collect}
use Rattle.made_store.specs.Made.{IsSized, Plan, entry_from}
use Rattle.made_store.specs.Ports.{picks_of}
use Rattle.unit_plan.specs.Returns.{nodes_collects, refolded_nodes}

-- ---- graphs

-- how many inputs of a returns are no multiples of iterations or turns: those of its node, and of a ForAll what its generator gives
abbrev pub plain_by : Compound → (inputs : ℕ) → List Graph → ℕ
plain_by compound.ForAll n gs = n + results_at gs 0
plain_by c n gs = n

abbrev pub plain_as : (outer : Graph) → Node → Option (Compound × Part) → Option ℕ
plain_as outer n (Some (c, part.Returns)) = Some (plain_by c (width outer (label_of n)) (out-Node n).subs)
plain_as outer n _ = None

abbrev pub plain_at : Home → Option ℕ
plain_at (Function k) = None
plain_at (Inside outer n k) = plain_as outer n (part_of n k)

-- the place of a graph, by its number
abbrev pub place_of : Unit1 → ℕ → Option Place
place_of u g = find (λ p. number_of p == g) (places u)

abbrev pub plain_in : Option Place → Option ℕ
plain_in None = None
plain_in (Some p) = plain_at p.home

-- of the graph of this number, if it is a returns
abbrev pub plain_of : Unit1 → ℕ → Option ℕ
plain_of u g = plain_in (place_of u g)

abbrev pub nodes_by : Unit1 → (graph : ℕ) → Option ℕ → List Vertex → List Vertex
nodes_by u g None vs = vs
nodes_by u g (Some plain) vs = refolded_nodes plain (is_left (storage_of u) g) 0 vs

abbrev pub collects_in : Unit1 → (graph : ℕ) → Option ℕ → List Vertex → List Collect
collects_in u g None vs = []
collects_in u g (Some plain) vs = nodes_collects plain (is_left (storage_of u) g) vs

-- how many inputs the graph of a number has
abbrev pub inputs_in : Unit1 → Option Place → ℕ
inputs_in u None = 0
inputs_in u (Some p) = unwrap_or (inputs u p) 0

-- how many outputs a node has: by its row, by the results of its function, or by its form
abbrev pub outputs_in : Unit1 → Kind → ℕ
outputs_in u (Plain row shape) = outputs_by (row_of row).gives shape
outputs_in u (Whole (form.Call f)) = length (network u f).results
outputs_in u (Whole form) = outputs_of form

-- what is given to a compound node and not taken is copied for its parts
abbrev pub picks_by : Storage → (graph : ℕ) → Vertex → Kind → List Bool
picks_by s g v (Plain row shape) = []
picks_by s g v (Whole (form.Call f)) = []
picks_by s g v (Whole form) = picks_of (λ p. s.is_given g v.label p && is_left s g v.label p) 1 v.ins

-- ---- the plan

-- the functions of a unit in their order
abbrev pub functions_of : Unit1 → List ℕ
functions_of u = map (λ g. (out-Graph g).number) u.graphs

-- no graph stands deeper than there are graphs
abbrev pub levels_of : Unit1 → ℕ
levels_of u = suc (sizes u.graphs)

-- how many steps and cells each graph takes, and where each function begins
pub record Tables : Type 0 where
  pub size : (graph : ℕ) → ℕ
  pub extent : (graph : ℕ) → ℕ
  pub entry : (function : ℕ) → ℕ

abbrev pub plan_of : Unit1 → (order : (graph : ℕ) → List Vertex) → Tables → Plan
plan_of u order t =
    record {
      nodes = λ g. nodes_by u g (plain_of u g) (order g);
      results = λ g. (network u g).results;
      width = λ v. outputs_in u v.kind;
      picks = λ g v. picks_by (storage_of u) g v v.kind;
      collects = λ g. collects_in u g (plain_of u g) (order g);
      refolded = λ r. r;
      params = λ f. inputs_in u (place_of u f);
      entry = t.entry;
      size = t.size;
      extent = t.extent;
    }

-- the tables are right
pub record AreTables (u : Unit1) (order : (graph : ℕ) → List Vertex) (t : Tables) : Type 0 where
  pub sized : (g : ℕ) → IsSized (plan_of u order t) g
  pub entries : (f : ℕ) → IsIn f (functions_of u) → t.entry f ≡ entry_from (plan_of u order t) (functions_of u) 0 f
