-- The returns of a loop or ForAll on what is collected. A last value alone is kept as it is. Where a mask stands beside a multiple, both
-- of them of the iterations or turns, and no copy is counted, the kept values are collected. Other multiples are collected whole.
use Rattle.std.specs.Prelude.{ℕ, zero, suc, ◌+◌, ◌-◌, ltb, if◌then◌else◌, Bool, false, List, [], ◌∷◌, ◌++◌, length, Option, Some, None}
use Rattle.if1_graph.specs.declared.op.Simple.{Simple}
use Rattle.if1_graph.specs.declared.op.Simple.TheVariants as simple
use Rattle.graph_meaning.specs.Demand.{Source, Port, Fixed, Kind, Plain, Whole, Vertex}
use Rattle.made_store.specs.Collections.{Collect, Sifts, Final}

-- which multiple a source reads, counted from 0 behind the plain inputs
abbrev pub multiple : (plain : ℕ) → Source → Option ℕ
multiple plain (Fixed c) = None
multiple plain (Port zero zero) = None
multiple plain (Port zero (suc p)) = if ltb p plain then None else Some (p - plain)
multiple plain (Port (suc l) p) = None

-- how a node reads multiples: the last value of one, the kept values of one by a mask, behind other sources, or each one whole
pub data Way : Type 0 where
  Lasts : (column : ℕ) → Way
  Keeping : (before : List Source) (column mask : ℕ) → Way
  Wholly : Way

abbrev pub last_way : Option ℕ → Way
last_way (Some j) = Lasts j
last_way None = Wholly

abbrev pub keeping_way : (left : Bool) → (before : List Source) → Option ℕ → Option ℕ → Way
keeping_way false before (Some j) (Some q) = Keeping before j q
keeping_way _ before _ _ = Wholly

-- what stands before them is no multiple
abbrev pub behind_way : (left : Bool) → (first : Source) → Option ℕ → Option ℕ → Option ℕ → Way
behind_way left o None x y = keeping_way left (o ∷ []) x y
behind_way left o (Some i) x y = Wholly

-- by the row of a node, where `left` says at which ports a copy is counted
abbrev pub way_of : (plain : ℕ) → (left : (port : ℕ) → Bool) → Simple → List Source → Way
way_of plain left simple.FinalValue (x ∷ []) = last_way (multiple plain x)
way_of plain left simple.FinalValue (x ∷ y ∷ []) = keeping_way (left 1) [] (multiple plain x) (multiple plain y)
way_of plain left simple.AGather (o ∷ x ∷ y ∷ []) = behind_way (left 2) o (multiple plain o) (multiple plain x) (multiple plain y)
way_of plain left (simple.Reduce grouping) (o ∷ x ∷ y ∷ []) = behind_way (left 2) o (multiple plain o) (multiple plain x) (multiple plain y)
way_of plain left row os = Wholly

-- ---- what is collected for a node

abbrev pub whole_of : Option ℕ → List Collect → List Collect
whole_of None cs = cs
whole_of (Some j) cs = Sifts j None ∷ cs

abbrev pub wholes : (plain : ℕ) → List Source → List Collect
wholes plain [] = []
wholes plain (o ∷ os) = whole_of (multiple plain o) (wholes plain os)

abbrev pub collects_by : Way → (plain : ℕ) → List Source → List Collect
collects_by (Lasts j) plain os = Final j ∷ []
collects_by (Keeping before j q) plain os = Sifts j (Some q) ∷ []
collects_by Wholly plain os = wholes plain os

module _ (plain : ℕ) (left : (node port : ℕ) → Bool) where
  abbrev pub node_collects : Vertex → Kind → List Collect
  node_collects v (Plain row shape) = collects_by (way_of plain (left v.label) row v.ins) plain v.ins
  node_collects v (Whole form) = []

  abbrev pub nodes_collects : List Vertex → List Collect
  nodes_collects [] = []
  nodes_collects (v ∷ vs) = node_collects v v.kind ++ nodes_collects vs

-- ---- the node on it, where its first collection has this number

abbrev pub collected_port : (plain k : ℕ) → Source
collected_port plain k = Port 0 (suc (plain + k))

abbrev pub whole_in : (plain k : ℕ) → Source → Option ℕ → (rest : (k : ℕ) → List Source) → List Source
whole_in plain k o None rest = o ∷ rest k
whole_in plain k o (Some j) rest = collected_port plain k ∷ rest (suc k)

abbrev pub whole_ins : (plain k : ℕ) → List Source → List Source
whole_ins plain k [] = []
whole_ins plain k (o ∷ os) = whole_in plain k o (multiple plain o) (λ i. whole_ins plain i os)

abbrev pub ins_by : Way → (plain k : ℕ) → List Source → List Source
ins_by (Lasts j) plain k os = collected_port plain k ∷ []
ins_by (Keeping before j q) plain k os = before ++ collected_port plain k ∷ []
ins_by Wholly plain k os = whole_ins plain k os

-- a last value is passed on
abbrev pub row_by : Way → Simple → Simple
row_by (Lasts j) row = simple.NoOp
row_by way row = row

module _ (plain : ℕ) (left : (node port : ℕ) → Bool) where
  abbrev pub refolded_node : (k : ℕ) → Vertex → Kind → Vertex
  refolded_node k v (Plain row shape) =
      record {
        label = v.label;
        kind = Plain (row_by (way_of plain (left v.label) row v.ins) row) shape;
        ins = ins_by (way_of plain (left v.label) row v.ins) plain k v.ins;
        before = v.before;
      }
  refolded_node k v (Whole form) = v

  abbrev pub refolded_nodes : (k : ℕ) → List Vertex → List Vertex
  refolded_nodes k [] = []
  refolded_nodes k (v ∷ vs) = refolded_node k v v.kind ∷ refolded_nodes (k + length (node_collects plain left v v.kind)) vs
