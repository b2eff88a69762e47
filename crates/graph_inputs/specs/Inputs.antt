-- The inputs of the graphs of a unit.
use Rattle.std.specs.Prelude.{ℕ, List, Option, Some, None}
use Rattle.if1_graph.specs.declared.graph.Graph.{Graph}
use Rattle.if1_graph.specs.declared.graph.Unit1.{Unit1}
use Rattle.if1_graph.specs.declared.op.Compound.{Compound}
use Rattle.if1_graph.specs.declared.op.Part.{Part}
use Rattle.if1_graph.specs.declared.op.Part.TheVariants as part
use Rattle.if1_graph.specs.Parts.{part_at}
use Rattle.if1_graph.specs.Ports.{part_inputs}
use Rattle.if1_graph.specs.Units.{Place}
use Rattle.unit_plan.specs.Plans.{inputs_in, plain_at, plain_by}
use Rattle.graph_inputs.specs.declared.inputs.Inputs.{Inputs}

-- of a graph of the unit, by its place
abbrev pub inputs_of : Unit1 → Place → Inputs
inputs_of u p = record { all = inputs_in u (Some p); plain = plain_at p.home }

-- ---- a part of a compound node with so many inputs

abbrev pub plain_for : Compound → Part → (width : ℕ) → List Graph → Option ℕ
plain_for c part.Returns w gs = Some (plain_by c w gs)
plain_for c x w gs = None

abbrev pub inputs_as : Compound → Part → (width : ℕ) → List Graph → Inputs
inputs_as c x w gs = record { all = part_inputs c x w gs; plain = plain_for c x w gs }

abbrev pub inputs_for : Compound → Option Part → (width : ℕ) → List Graph → Inputs
inputs_for c (Some x) w gs = inputs_as c x w gs
inputs_for c None w gs = record { all = 0; plain = None }

-- by its place among the node's graphs
abbrev pub inputs_by : Option Compound → (place width : ℕ) → List Graph → Inputs
inputs_by (Some c) k w gs = inputs_for c (part_at c k) w gs
inputs_by None k w gs = record { all = 0; plain = None }
