-- What fills the ports of a node of a unit, or of the boundary of a graph, in order, and what is known of each port.
use Rattle.std.specs.Prelude.{◌≡◌, ◌&&◌, ℕ, suc, List, [], ◌∷◌, Contains}
use Rattle.if1_graph.specs.declared.graph.Graph.{Graph}
use Rattle.if1_graph.specs.declared.graph.Graph.TheViews.{out-Graph}
use Rattle.if1_graph.specs.declared.graph.Unit1.{Unit1}
use Rattle.if1_graph.specs.Ports.{inputs}
use Rattle.if1_graph.specs.Units.{Place, places}
use Rattle.graph_meaning.specs.Carried.{Unfilled}
use Rattle.graph_meaning.specs.Demand.{Source}
use Rattle.graph_meaning.specs.Networks.{source_at}
use Rattle.graph_meaning.specs.Storage.{Storage}
use Rattle.graph_meaning.specs.StorageUnits.{storage_of}
use Rattle.run_cells.specs.declared.cell.Cell.{Cell}
use Rattle.run_code.specs.Made.{Plan}
use Rattle.made_store.specs.Settings.{Shares}
use Rattle.plan_data.specs.declared.plan.PlanData.{PlanData}
use Rattle.plan_data.specs.Parts.{IsBelow, literal_in}
use Rattle.plan_data.specs.Stands.{IsFed}
use Rattle.plan_builder.specs.declared.outlets.Outlets.{Outlets}
use Rattle.plan_builder.specs.Feeds.{HasLiterals, IsInput}
use Rattle.plan_builder.specs.Laws.{AreOfGraph}
use Rattle.plan_builder.specs.Outlets.{AreLaid, cells_of}
use Rattle.port_feeds.specs.declared.filled.Filled.{Filled}

-- the graph is one of the unit's, and the outputs of its nodes stand so
abbrev pub IsGraphOf : Unit1 → Graph → Outlets → Type 0
IsGraphOf u g x = (p : Place) × Contains (places u) p × (p.graph ≡ g) × AreOfGraph u p x

-- ---- what is known of ports

-- a port takes, consumes an aggregate and has one as the table of the storage tells
pub record IsTold (s : Storage) (graph node port : ℕ) (f : Filled) : Type 0 where
  pub takes : f.takes ≡ s.is_taken graph node port
  pub consumed : f.consumed ≡ s.is_given graph node port && s.is_aggregate graph node port
  pub aggregate : f.aggregate ≡ s.is_aggregate graph node port

-- so do the ports of a node from this one on
abbrev pub AreTold : Storage → (graph node first : ℕ) → List Filled → Type 0
AreTold s g l i [] = Unit {0}
AreTold s g l i (f ∷ fs) = IsTold s g l i f × AreTold s g l (suc i) fs

-- ---- what fills ports

module _ (D : PlanData) (P : Plan) (S : Shares) (s : Storage) (graph node : ℕ) where
  -- what fills a port is this source, and what is known of the port
  pub record IsFilled (port : ℕ) (f : Filled) (o : Source) : Type 0 where
    pub fed : IsFed D P S graph f.feed o
    pub takes : f.takes ≡ s.is_taken graph node port
    pub consumed : f.consumed ≡ s.is_given graph node port && s.is_aggregate graph node port
    pub aggregate : f.aggregate ≡ s.is_aggregate graph node port

  -- so it is with the ports from this one on
  abbrev pub AreFilled : (first : ℕ) → List Filled → List Source → Type 0
  AreFilled i [] [] = Unit {0}
  AreFilled i (f ∷ fs) (o ∷ os) = IsFilled i f o × AreFilled (suc i) fs os
  AreFilled i _ _ = ⊥

-- by data with these literals, what fills a port of a node is right, and so is what is known of the port
pub record IsPort (u : Unit1) (g : Graph) (x : Outlets) (cs : List Cell) (node port : ℕ) (f : Filled) : Type 0 where
  pub fed : (D : PlanData) (P : Plan) (S : Shares) (n : ℕ) → literal_in D 0 ≡ Unfilled → HasLiterals cs D → AreLaid P x (P.nodes n) → IsFed D P S n f.feed (source_at u g node port)
  pub below : IsBelow (cells_of x.widths x.order) f.feed
  pub there : (p : Place) → Contains (places u) p → p.graph ≡ g → IsInput (inputs u p) f.feed
  pub told : IsTold (storage_of u) (out-Graph g).number node port f

-- so it is with those from this one on
abbrev pub ArePorts : Unit1 → Graph → Outlets → List Cell → (node first : ℕ) → List Filled → Type 0
ArePorts u g x cs l i [] = Unit {0}
ArePorts u g x cs l i (f ∷ fs) = IsPort u g x cs l i f × ArePorts u g x cs l (suc i) fs
