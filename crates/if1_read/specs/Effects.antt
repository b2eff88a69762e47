-- What a line without a fault does to what the lines before it have given.
use Rattle.std.specs.Prelude.{◌≡◌, ℕ, Bool, false, List, [], ◌∷◌, ◌++◌, length, None, Some, IsSome}
use Rattle.if1_graph.specs.declared.graph.Graph.{Graph}
use Rattle.if1_graph.specs.declared.graph.Node.{Node, out-Node}
use Rattle.if1_graph.specs.declared.graph.Edge.{Edge}
use Rattle.if1_graph.specs.Formed.{IsType}
use Rattle.if1_graph.specs.Reads.{IsCompoundNode}
use Rattle.if1_graph.specs.Units.{label_of, most_levels}
use Rattle.if1_read.specs.declared.judge.Known.{Known}
use Rattle.if1_read.specs.declared.part.Part.{Part}
use Rattle.if1_read.specs.declared.level.Level.{Level}
use Rattle.if1_read.specs.declared.machine.Machine.{Machine}
use Rattle.if1_read.specs.Known.{IsClear}
use Rattle.if1_read.specs.Stands.{GainsNode, GainsEdge, LevelEnds, IsNewPart}

-- the same imports and open compound nodes, but for the innermost level
pub record StaysAround (m n : Machine) : Type 0 where
  pub imports : n.imports ≡ m.imports
  pub outer : n.outer.items ≡ m.outer.items

pub record AddsNode (m n : Machine) (node : Node) : Type 0 where
  pub around : StaysAround m n
  pub gains : GainsNode m.level n.level node

pub record AddsEdge (k : Known) (m n : Machine) (e : Edge) : Type 0 where
  pub around : StaysAround m n
  pub gains : GainsEdge k m.level n.level e

-- the graph before it ends
pub record BeginsPart (k : Known) (m n : Machine) (p : Part) : Type 0 where
  pub around : StaysAround m n
  pub ends : LevelEnds k m.level.graphs m.level.part n.level.graphs
  pub begun : n.level.part ≡ Some p

-- outside of compound nodes
pub record BeginsFunction (k : Known) (m n : Machine) (exported : Bool) (fun : ℕ) (name : List ℕ) : Type 0 where
  pub alone : m.outer.items ≡ []
  pub part : Part
  pub fresh : IsNewPart exported fun name part
  pub begins : BeginsPart k m n part
  pub clear : IsClear k.table fun

-- inside of one
pub record BeginsSubgraph (k : Known) (m n : Machine) (name : List ℕ) : Type 0 where
  pub inside : ¬ (m.outer.items ≡ [])
  pub part : Part
  pub fresh : IsNewPart false 0 name part
  pub begins : BeginsPart k m n part

pub record Imports (k : Known) (m n : Machine) (ty : ℕ) (name : List ℕ) : Type 0 where
  pub alone : m.outer.items ≡ []
  pub outer : n.outer.items ≡ m.outer.items
  pub ends : LevelEnds k m.level.graphs m.level.part n.level.graphs
  pub ended : n.level.part ≡ None
  pub imports : n.imports ≡ m.imports ++ (ty, name) ∷ []
  pub there : IsType k.table.types ty

-- the innermost level is one around
pub record Opens (m n : Machine) : Type 0 where
  pub imports : n.imports ≡ m.imports
  pub some : IsSome m.level.part
  pub outer : n.outer.items ≡ m.outer.items ++ m.level ∷ []
  pub graphs : n.level.graphs ≡ []
  pub part : n.level.part ≡ None
  pub room : ¬ (length m.outer.items ≡ most_levels)

-- the node as its line has it, with the graphs of the level that ends, is added to the one around
pub record Closes (k : Known) (m n : Machine) (count : ℕ) (node : Node) : Type 0 where
  pub imports : n.imports ≡ m.imports
  pub around : Level
  pub outer : m.outer.items ≡ n.outer.items ++ around ∷ []
  pub graphs : List Graph
  pub ends : LevelEnds k m.level.graphs m.level.part graphs
  pub counted : count ≡ length graphs
  pub made : Node
  pub is : IsCompoundNode made (label_of node) (out-Node node).op graphs (out-Node node).assoc (out-Node node).before (out-Node node).name
  pub gains : GainsNode around n.level made
