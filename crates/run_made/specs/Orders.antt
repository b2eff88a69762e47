-- An order of a graph is right for a plan where each port that is read is an output of its node.
use Rattle.std.specs.Prelude.{◌≡◌, ℕ, zero, suc, ◌≤◌, List, [], ◌∷◌, Some}
use Rattle.run_laws.specs.Demand.{EachNode, Fixed, IsOrderly, LabelsOnce, Net, Port, Source, Vertex, at_label}
use Rattle.run_laws.specs.Orders.{IsInOrder}
use Rattle.run_laws.specs.Known.{AreReadable}

-- nodes have these ports among their outputs
abbrev pub AreOutputs : (width : Vertex → ℕ) → Net → List Source → Type 0
AreOutputs width net [] = Unit {0}
AreOutputs width net (Fixed c ∷ os) = AreOutputs width net os
AreOutputs width net (Port zero p ∷ os) = AreOutputs width net os
AreOutputs width net (Port (suc l) p ∷ os) = ((v : Vertex) → at_label net.nodes (suc l) ≡ Some v → (1 ≤ p) × (p ≤ width v)) × AreOutputs width net os

-- so nodes read what was given before, and labels stand once
abbrev pub AreOrdersReadable : Type 0
AreOrdersReadable = (net : Net) (vs : List Vertex) (width : Vertex → ℕ) → IsOrderly net → IsInOrder net vs → EachNode (λ v. AreOutputs width net v.ins) vs → AreOutputs width net net.results → AreReadable width vs net.results × LabelsOnce vs
