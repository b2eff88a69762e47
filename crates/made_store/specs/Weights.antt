-- Weights by the modes of a plan. Where modes go by the marks of a unit, they are those of record.
use Rattle.std.specs.Prelude.{◌≡◌, ◌⊎◌, ℕ, ◌+◌, ◌≤◌, ◌&&◌, not, Bool, false, List, [], length}
use Rattle.graph_meaning.specs.Carried.{Carried}
use Rattle.graph_meaning.specs.Forms as form
use Rattle.graph_meaning.specs.Demand.{EachNode, Kind, Network, Plain, Source, Vertex, Whole}
use Rattle.graph_meaning.specs.Storage.{Storage, copied_by, copying, is_left}
use Rattle.run_code.specs.Taking.{first_port}
use Rattle.run_code.specs.Cells.{picked}
use Rattle.run_code.specs.Made.{Plan}
use Rattle.run_made.specs.Weighing.{AreAlike}
use Rattle.run_made.specs.Plans.{Weighing}
use Rattle.run_store.specs.Ports.{copies_of, picks_of}
use Rattle.run_store.specs.Stored.{copied, put_copied}
use Rattle.made_store.specs.Settings.{Shares, modes_at, result_modes}

module _ (P : Plan) (S : Shares) (s : Storage) where
  -- a simple node copies what its row says, other nodes and steps what their modes copy
  abbrev pub node_weight : (graph : ℕ) → Vertex → Kind → List Carried → List Carried → ℕ
  node_weight g v (Plain row shape) ks rs = copied_by s g v.label row ks rs
  node_weight g v (Whole (form.Call f)) ks rs = copied (modes_at P S g v) ks
  node_weight g v (Whole form) ks rs = copied (copies_of (P.picks g v)) (picked (P.picks g v) ks)

  abbrev pub by_modes : Weighing
  by_modes =
      record {
        weights = record { of_node = λ g v ks rs. node_weight g v v.kind ks rs; of_results = λ g rs. copied (result_modes P S g) rs };
        inputs = λ g v ks. copied (copies_of (P.picks g v)) ks;
        rows = λ r ks. put_copied (P.collects r) (S.puts r) ks;
      }

  -- what is carried into this port is given, and not taken there
  abbrev pub is_copied : (graph node port : ℕ) → Bool
  is_copied g l p = s.is_given g l p && is_left s g l p

  -- so it is at none of the ports past these
  abbrev pub CopiesNoMore : (graph node first : ℕ) → List Source → Type 0
  CopiesNoMore g l first os = (p : ℕ) → first + length os ≤ p → is_copied g l p ≡ false

  abbrev pub IsNodeMarked : (graph : ℕ) → Vertex → Kind → Type 0
  IsNodeMarked g v (Plain row shape) = Unit {0}
  IsNodeMarked g v (Whole (form.Call f)) = ((p : ℕ) → is_copied g v.label p ≡ S.copies g v.label p && not (S.takes g v.label p)) × CopiesNoMore g v.label 2 v.ins × (first_port v.kind ≡ 2)
  IsNodeMarked g v (Whole form) = (P.picks g v ≡ picks_of (is_copied g v.label) 1 v.ins) × CopiesNoMore g v.label 1 v.ins

  -- modes go by marks at each node of the network, and at the results of each of its graphs
  pub record IsMarked (u : Network) : Type 0 where
    pub nodes : (g : ℕ) → EachNode (λ v. IsNodeMarked g v v.kind) (u g).nodes
    pub results : (g p : ℕ) → is_left s g 0 p ≡ S.copies g 0 p && not (S.takes g 0 p)
    pub as_many : (g : ℕ) → (length (P.results g) ≡ length (u g).results) ⊎ ((u g).results ≡ [])

-- weights by modes are those of record
abbrev pub AreModesWeights : Type 0
AreModesWeights = (P : Plan) (S : Shares) (s : Storage) (u : Network) → IsMarked P S s u → AreAlike u (by_modes P S s).weights (copying s)
