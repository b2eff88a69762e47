-- A graph and the graphs inside it, with what the boundary of each must have.
use Rattle.std.specs.Prelude.{◌≡◌, ℕ, true, false, List, Option, Some, option_map, unwrap_or, slice_get, All, Contains}
use Rattle.if1_graph.specs.declared.graph.Graph.{Graph}
use Rattle.if1_graph.specs.declared.graph.Graph.TheViews.{out-Graph}
use Rattle.if1_graph.specs.declared.graph.Node.{Node, out-Node}
use Rattle.if1_graph.specs.Ops.{compound_at}
use Rattle.if1_graph.specs.Units.{label_of, ends, width, results}
use Rattle.if1_order.specs.Within.{IsPart}
use Rattle.if1_ports.specs.declared.around.Around.{Around}
use Rattle.if1_ports.specs.declared.around.Bounds.{Bounds}
use Rattle.if1_ports.specs.Outlines.{arguments_in, results_in}
use Rattle.if1_ports.specs.Fed.{Types, Callees}
use Rattle.if1_ports.specs.Compound.{around_of, bounds_at}
use Rattle.if1_ports.specs.Ends.{is_right, IsInOrder}

-- what the graphs in a node of a graph depend on
abbrev pub around_in : Graph → Node → Option Around
around_in g n = option_map (λ c. around_of c (width g (label_of n)) (out-Node n).subs) (compound_at (out-Node n).op)

-- the bounds of a graph in a node
abbrev pub bounds_in : Graph → Node → ℕ → Graph → Bounds
bounds_in g n k s = bounds_at (around_in g n) k (results s)

-- the bounds of a function
abbrev pub function_bounds : Types → Graph → Bounds
function_bounds o g = record {
  inputs = arguments_in (o (out-Graph g).fun);
  results = unwrap_or (results_in (o (out-Graph g).fun)) (results g);
}

-- a graph with its bounds is this one, or stands inside it
pub data IsInside : Bounds → Graph → Bounds → Graph → Type 0 where
  itself : {b : Bounds} {g : Graph} → IsInside b g b g
  deeper : {b d : Bounds} {g s h : Graph} (n : Node) (k : ℕ) → Contains (out-Graph g).nodes n → slice_get (out-Node n).subs k ≡ Some s →
      IsInside (bounds_in g n k s) s d h → IsInside b g d h

-- ---- all in order

abbrev pub InOrderInside : Graph → Type 0
InOrderInside g = (h : Graph) → IsPart g h → IsInOrder h

abbrev pub AreInOrder : List Graph → Type 0
AreInOrder gs = (g : Graph) → Contains gs g → InOrderInside g

-- ---- all right, or one wrong

abbrev pub AllRight : Types → Callees → Bounds → Graph → Type 0
AllRight o c b g = (d : Bounds) (h : Graph) → IsInside b g d h → All (λ l. is_right o c d h l ≡ true) (ends h)

-- a graph of this number inside this one has a node or a boundary with wrong ports
abbrev pub SomeWrong : Types → Callees → Bounds → Graph → ℕ × ℕ → Type 0
SomeWrong o c b g at =
    (d : Bounds) × (h : Graph) × IsInside b g d h × ((out-Graph h).number ≡ at.0) × Contains (ends h) at.1 × (is_right o c d h at.1 ≡ false)

abbrev pub PartsRight : Types → Callees → Option Around → List Graph → Type 0
PartsRight o c a gs = (k : ℕ) (s : Graph) → slice_get gs k ≡ Some s → AllRight o c (bounds_at a k (results s)) s

abbrev pub PartsWrong : Types → Callees → Option Around → List Graph → ℕ × ℕ → Type 0
PartsWrong o c a gs at = (k : ℕ) × (s : Graph) × (slice_get gs k ≡ Some s) × SomeWrong o c (bounds_at a k (results s)) s at

abbrev pub NodesRight : Types → Callees → Graph → List Node → Type 0
NodesRight o c g ns = All (λ n. PartsRight o c (around_in g n) (out-Node n).subs) ns

abbrev pub NodesWrong : Types → Callees → Graph → List Node → ℕ × ℕ → Type 0
NodesWrong o c g ns at = (n : Node) × Contains ns n × PartsWrong o c (around_in g n) (out-Node n).subs at

abbrev pub FunctionsRight : Types → Callees → List Graph → Type 0
FunctionsRight o c gs = All (λ g. AllRight o c (function_bounds o g) g) gs

abbrev pub FunctionsWrong : Types → Callees → List Graph → ℕ × ℕ → Type 0
FunctionsWrong o c gs at = (g : Graph) × Contains gs g × SomeWrong o c (function_bounds o g) g at
