-- What the ports of a unit take and copy in its plan, which inputs graphs own, and the weights of its steps.
use Rattle.std.specs.Prelude.{ℕ, zero, suc, ◌+◌, ◌-◌, ◌&&◌, not, ltb, leb, if◌then◌else◌, Bool, true, false, List, [], get_or, slice_get, Option, Some, None, is_some}
use Rattle.if1_graph.specs.declared.graph.Graph.{Graph}
use Rattle.if1_graph.specs.declared.graph.Node.{Node}
use Rattle.if1_graph.specs.declared.graph.Unit1.{Unit1}
use Rattle.if1_graph.specs.declared.op.Compound.{Compound}
use Rattle.if1_graph.specs.declared.op.Part.{Part}
use Rattle.if1_graph.specs.declared.op.Part.TheVariants as part
use Rattle.if1_graph.specs.Ports.{part_of}
use Rattle.if1_graph.specs.Units.{Home, Function, Inside, Place, label_of, width}
use Rattle.graph_meaning.specs.Given.{is_consumed_by}
use Rattle.graph_meaning.specs.Carried.{Unfilled}
use Rattle.graph_meaning.specs.Demand.{Fixed, Kind, Plain, Whole, Vertex, Net, at_label}
use Rattle.graph_meaning.specs.Networks.{network}
use Rattle.graph_meaning.specs.Storage.{is_left, node_written}
use Rattle.graph_meaning.specs.StorageUnits.{storage_of}
use Rattle.made_store.specs.Collections.{Collect, Sifts, Final}
use Rattle.made_store.specs.Made.{Plan}
use Rattle.made_store.specs.Plans.{Weighing}
use Rattle.made_store.specs.Ports.{copies_of}
use Rattle.made_store.specs.Stored.{copied}
use Rattle.made_store.specs.Marks.{owned_inputs}
use Rattle.made_store.specs.Settings.{Shares, result_modes}
use Rattle.made_store.specs.UnitWeights.{marked_shares}
use Rattle.made_store.specs.Weights.{node_weight}
use Rattle.unit_plan.specs.Plans.{Tables, collects_in, place_of, plain_of, plan_of}
use Rattle.unit_plan.specs.Returns.{Lasts, Way, multiple, way_of}

-- ---- collections

-- what the input at a port of a returns collects
abbrev pub collect_at : (plain : ℕ) → List Collect → (port : ℕ) → Option Collect
collect_at plain cs zero = None
collect_at plain cs (suc p) = if ltb p plain then None else slice_get cs (p - plain)

-- ---- what is taken more

abbrev pub is_last : Way → Bool
is_last (Lasts j) = true
is_last _ = false

-- a simple node of a returns reads a multiple at this port, and not its last value alone
abbrev pub reads_multiple : (plain : ℕ) → (left : (node port : ℕ) → Bool) → Vertex → Kind → (port : ℕ) → Bool
reads_multiple plain left v (Plain row shape) port = not (is_last (way_of plain (left v.label) row v.ins)) && is_some (multiple plain (get_or v.ins (port - 1) (Fixed Unfilled)))
reads_multiple plain left v (Whole form) port = false

abbrev pub reads_by : (plain : ℕ) → (left : (node port : ℕ) → Bool) → Option Vertex → (port : ℕ) → Bool
reads_by plain left None port = false
reads_by plain left (Some v) port = reads_multiple plain left v v.kind port

module _ (u : Unit1) (order : (graph : ℕ) → List Vertex) where
  -- a collection of what has no parts is taken by the node that reads it
  abbrev pub takes_collected : Option ℕ → (graph node port : ℕ) → Bool
  takes_collected None g l port = false
  takes_collected (Some plain) g l port = reads_by plain (is_left (storage_of u) g) (at_label (network u g).nodes l) port && not ((storage_of u).is_aggregate g l port)

  abbrev pub takes_more : (graph node port : ℕ) → Bool
  takes_more g zero port = false
  takes_more g (suc l) port = takes_collected (plain_of u g) g (suc l) port

  -- ---- what graphs own

  -- a returns owns its collections, and a last value where it owns all values of its multiple
  abbrev pub owns_collected : (plain graph : ℕ) → Option Collect → Bool
  owns_collected plain g None = false
  owns_collected plain g (Some (Sifts j mask)) = true
  owns_collected plain g (Some (Final j)) = owned_inputs u g (suc (plain + j))

  abbrev pub owns_by : Option ℕ → (graph port : ℕ) → Bool
  owns_by None g port = owned_inputs u g port
  owns_by (Some plain) g port = owns_collected plain g (collect_at plain (collects_in u g (Some plain) (order g)) port)

  -- no port has number 0
  abbrev pub owns_of : (graph port : ℕ) → Bool
  owns_of g zero = false
  owns_of g (suc p) = owns_by (plain_of u g) g (suc p)

-- ---- what is there

-- what a loop's initialization is given is in none of its other parts
abbrev pub is_there_in : Unit1 → (outer : Graph) → Node → Option (Compound × Part) → (port : ℕ) → Bool
is_there_in u outer n (Some (c, part.Test)) port = not (leb port (width outer (label_of n)) && is_consumed_by u n port)
is_there_in u outer n (Some (c, part.Body)) port = not (leb port (width outer (label_of n)) && is_consumed_by u n port)
is_there_in u outer n (Some (c, part.Returns)) port = not (leb port (width outer (label_of n)) && is_consumed_by u n port)
is_there_in u outer n _ port = true

abbrev pub is_there_at : Unit1 → Home → (port : ℕ) → Bool
is_there_at u (Function k) port = true
is_there_at u (Inside outer n k) port = is_there_in u outer n (part_of n k) port

abbrev pub has_in : Unit1 → Option Place → (port : ℕ) → Bool
has_in u None port = true
has_in u (Some p) port = is_there_at u p.home port

abbrev pub has_of : Unit1 → (graph port : ℕ) → Bool
has_of u g zero = false
has_of u g (suc p) = has_in u (place_of u g) (suc p)

-- ---- the shares

-- Ports take by their marks, and copy what they consume and do not take. What is put to collections is moved: its copies are counted
-- where it is read.
abbrev pub shares_of : Unit1 → (order : (graph : ℕ) → List Vertex) → Shares
shares_of u order = marked_shares (storage_of u) (takes_more u order) (owns_of u order) (has_of u) (λ r. [])

-- ---- the weights

-- what the node of this label does in a graph
abbrev pub kind_or : Kind → Option Vertex → Kind
kind_or k None = k
kind_or k (Some v) = v.kind

abbrev pub kind_there : Net → Vertex → Kind
kind_there net v = kind_or v.kind (at_label net.nodes v.label)

-- A node copies what the node of its label copies by the definition of record, also where it does a returns on what is collected.
abbrev pub weighing_of : Unit1 → Plan → Shares → Weighing
weighing_of u P S =
    record {
      weights = record {
        of_node = λ g v ks rs. node_weight P S (storage_of u) g v (kind_there (network u g) v) ks rs;
        of_results = λ g rs. copied (result_modes P S g) rs;
      };
      inputs = λ g v ks. copied (copies_of (P.picks g v)) ks;
      rows = λ r row. 0;
    }

abbrev pub weighing : Unit1 → (order : (graph : ℕ) → List Vertex) → Tables → Weighing
weighing u order t = weighing_of u (plan_of u order t) (shares_of u order)

-- It writes what that node writes.
abbrev pub writing_of : Unit1 → Weighing
writing_of u =
    record {
      weights = record { of_node = λ g v ks rs. node_written (storage_of u) g v.label (kind_there (network u g) v) ks rs; of_results = λ g rs. 0 };
      inputs = λ g v ks. 0;
      rows = λ r row. 0;
    }
