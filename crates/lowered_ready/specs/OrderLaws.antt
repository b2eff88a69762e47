-- What the laws on the order of translated units say.
use Rattle.std.specs.Prelude.{ℕ, zero, suc, ◌≤◌, length, All}
use Rattle.typed_tree.specs.declared.program.Program.{Program}
use Rattle.if1_graph.specs.declared.graph.Graph.{Graph}
use Rattle.if1_graph.specs.declared.graph.Graph.TheViews.{out-Graph}
use Rattle.if1_graph.specs.declared.graph.Origin.{Origin}
use Rattle.if1_graph.specs.declared.graph.Origin.TheVariants.{Port, Lit}
use Rattle.if1_graph.specs.declared.graph.Unit1.{Unit1}
use Rattle.if1_graph.specs.Ready.{IsAcyclic}
use Rattle.if1_graph.specs.Units.{places}
use Rattle.lowered_units.specs.Units.{IsTranslated}

-- what leads to a node, or to the boundary for 0, comes from a smaller label, where so many nodes stand in the graph
abbrev pub IsEarlier : ℕ → Origin → ℕ → Type 0
IsEarlier nodes (Lit text) target = Unit {0}
IsEarlier nodes (Port source port) zero = source ≤ nodes
IsEarlier nodes (Port source port) (suc label) = source ≤ label

abbrev pub IsGraphInOrder : Graph → Type 0
IsGraphInOrder g = All (λ e. IsEarlier (length (out-Graph g).nodes) e.from e.node) (out-Graph g).edges

-- each graph is in order
abbrev pub AreInOrder : Type 0
AreInOrder = (p : Program) (u : Unit1) → IsTranslated p u → All (λ x. IsGraphInOrder x.graph) (places u)

abbrev pub AreAcyclic : Type 0
AreAcyclic = (p : Program) (u : Unit1) → IsTranslated p u → IsAcyclic u
