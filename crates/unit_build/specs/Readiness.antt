-- What is known of the lowered functions of a program within the limits.
use Rattle.std.specs.Prelude.{ℕ, suc, ◌+◌, ◌≤◌, ◌<◌, ◌^◌, List, [], ◌∷◌, All, Contains, length}
use Rattle.typed_tree.specs.declared.program.Program.{Program}
use Rattle.lowering.specs.declared.feed.Feed.{Feed}
use Rattle.lowering.specs.declared.feed.Feed.TheVariants.{Absent}
use Rattle.lowering.specs.declared.feed.Carried.{Carried}
use Rattle.lowering.specs.declared.feed.Carried.TheVariants.{Callee}
use Rattle.lowering.specs.declared.feed.Wire.{Wire}
use Rattle.lowering.specs.declared.graph.Action.{Action}
use Rattle.lowering.specs.declared.graph.Action.TheVariants.{Call}
use Rattle.lowering.specs.declared.graph.LoweredNode.{LoweredNode}
use Rattle.lowering.specs.declared.graph.LoweredGraph.{LoweredGraph}
use Rattle.lowering.specs.declared.graph.Lowered.{Lowered}
use Rattle.lowering.specs.Graphs.{size, closed}
use Rattle.lowering.specs.TooMany.{most_nodes, most_graphs}
use Rattle.lowered_units.specs.Small.{IsSmallFeed}
use Rattle.unit_build.specs.Labels.{unit_lines}
use Rattle.unit_build.specs.Nesting.{IsNested}

-- a line carries this, or there is none
abbrev pub IsLined : Program → Feed → Carried → Type 0
IsLined p Absent t = Unit {0}
IsLined p f t = Contains (unit_lines p) t

-- the port fits its number
pub record IsReadyWire (p : Program) (w : Wire) : Type 0 where
  pub small : IsSmallFeed w.feed
  pub lined : IsLined p w.feed w.ty

pub record AreReadyWires (p : Program) (ws : List Wire) : Type 0 where
  pub few : suc (length ws) < 2 ^ 32
  pub each : All (IsReadyWire p) ws

-- a line names the called function
abbrev pub IsLinedCall : Program → Action → Type 0
IsLinedCall p (Call f) = Contains (unit_lines p) (Callee f)
IsLinedCall p a = Unit {0}

pub record IsReadyNode (p : Program) (v : LoweredNode) : Type 0 where
  pub call : IsLinedCall p v.action
  pub ins : AreReadyWires p v.ins

pub record IsReadyGraph (p : Program) (d : LoweredGraph) : Type 0 where
  pub few : length d.nodes ≤ most_nodes
  pub nodes : All (IsReadyNode p) d.nodes
  pub results : AreReadyWires p d.results

pub record IsReadyFunction (p : Program) (number : ℕ) (m : Lowered) : Type 0 where
  pub nested : IsNested p number m
  pub few : number + length m.graphs ≤ most_graphs
  pub own : IsReadyGraph p (closed [] 0 0 m)
  pub inner : All (IsReadyGraph p) m.graphs

-- functions, the graph of the first of which has this number
abbrev pub AreReady : Program → ℕ → List Lowered → Type 0
AreReady p number [] = Unit {0}
AreReady p number (m ∷ ms) = IsReadyFunction p number m × AreReady p (number + size m) ms
