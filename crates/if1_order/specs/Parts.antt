-- Circles in a graph and in all graphs inside it.
use Rattle.std.specs.Prelude.{ℕ, List, All, Contains}
use Rattle.if1_graph.specs.declared.graph.Graph.{Graph}
use Rattle.if1_graph.specs.declared.graph.Node.{Node, out-Node}
use Rattle.if1_order.specs.Within.{IsPart}
use Rattle.if1_order.specs.Orders.{IsLinked, HasNoCircle, IsCircle}

abbrev pub IsLinkedInside : Graph → Type 0
IsLinkedInside g = (h : Graph) → IsPart g h → IsLinked h

abbrev pub AreLinkedInside : List Graph → Type 0
AreLinkedInside gs = (g : Graph) → Contains gs g → IsLinkedInside g

abbrev pub NodesAreLinked : List Node → Type 0
NodesAreLinked ns = (n : Node) → Contains ns n → AreLinkedInside (out-Node n).subs

abbrev pub IsClear : Graph → Type 0
IsClear g = (h : Graph) → IsPart g h → HasNoCircle h

abbrev pub AreClear : List Graph → Type 0
AreClear gs = All IsClear gs

abbrev pub NodesAreClear : List Node → Type 0
NodesAreClear ns = All (λ n. AreClear (out-Node n).subs) ns

abbrev pub HasCircle : Graph → ℕ × ℕ → Type 0
HasCircle g at = (h : Graph) × IsPart g h × IsCircle h at

abbrev pub HaveCircle : List Graph → ℕ × ℕ → Type 0
HaveCircle gs at = (g : Graph) × Contains gs g × HasCircle g at

abbrev pub NodesHaveCircle : List Node → ℕ × ℕ → Type 0
NodesHaveCircle ns at = (n : Node) × Contains ns n × HaveCircle (out-Node n).subs at
