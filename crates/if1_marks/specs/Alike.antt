-- Units that differ in marks alone.
use Rattle.std.specs.Prelude.{◌≡◌, false, All}
use Rattle.std.specs.List.Sorted.{IsStrictlyIncreasing}
use Rattle.if1_graph.specs.declared.graph.Graph.TheViews.{out-Graph}
use Rattle.if1_graph.specs.declared.graph.Node.{out-Node}
use Rattle.if1_graph.specs.declared.graph.Edge.{Edge}
use Rattle.if1_graph.specs.declared.graph.Origin.{Origin}
use Rattle.if1_graph.specs.declared.graph.Origin.TheVariants.{Port, Lit}
use Rattle.if1_graph.specs.declared.graph.Unit1.{Unit1}
use Rattle.if1_graph.specs.Formed.{IsFormed}
use Rattle.if1_graph.specs.Normal.{IsNormal}
use Rattle.if1_graph.specs.Ready.{IsReady}
use Rattle.if1_graph.specs.Units.{Place, places}
use Rattle.if1_graph.specs.Spelling.{IsLabel}
use Rattle.if1_marks.specs.Unmarked.{unmarked_unit}

-- they are the same without their marks
abbrev pub AreAlike : Unit1 → Unit1 → Type 0
AreAlike u v = unmarked_unit u ≡ unmarked_unit v

abbrev pub IsUntakenLiteral : Edge → Origin → Type 0
IsUntakenLiteral e (Port node port) = Unit {0}
IsUntakenLiteral e (Lit text) = e.takes ≡ false

-- marks that can be spelled: no literal is taken, and ordering lists hold labels
pub record AreMarksSpelled (p : Place) : Type 0 where
  pub takers : All (λ e. IsUntakenLiteral e e.from) (out-Graph p.graph).edges
  pub lists : All (λ n. All IsLabel (out-Node n).before) (out-Graph p.graph).nodes

-- the labels of each ordering list rise
abbrev pub DoListsRise : Place → Type 0
DoListsRise p = All (λ n. IsStrictlyIncreasing (out-Node n).before) (out-Graph p.graph).nodes

-- a unit with other marks is formed, ready and normal as before
abbrev pub AreAlikeFormed : Type 0
AreAlikeFormed = (u v : Unit1) → AreAlike u v → All AreMarksSpelled (places v) → IsFormed u → IsFormed v

abbrev pub AreAlikeReady : Type 0
AreAlikeReady = (u v : Unit1) → AreAlike u v → All AreMarksSpelled (places v) → IsReady u → IsReady v

abbrev pub AreAlikeNormal : Type 0
AreAlikeNormal = (u v : Unit1) → AreAlike u v → All DoListsRise (places v) → IsNormal u → IsNormal v

-- and one without any
pub record IsUnmarkedAsBefore (u : Unit1) : Type 0 where
  pub alike : AreAlike u (unmarked_unit u)
  pub formed : IsFormed u → IsFormed (unmarked_unit u)
  pub ready : IsReady u → IsReady (unmarked_unit u)
  pub normal : IsNormal u → IsNormal (unmarked_unit u)

abbrev pub AreUnmarkedAsBefore : Type 0
AreUnmarkedAsBefore = (u : Unit1) → IsUnmarkedAsBefore u
