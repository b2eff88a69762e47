-- Which nodes change their first operand in place, and what they give.
use Rattle.std.specs.Prelude.{List, ◌∷◌, Option, Some}
use Rattle.flow_value.specs.declared.operands.Shape.TheVariants as shape
use Rattle.flow_value.specs.declared.value.Val.{Val}
use Rattle.if1_graph.specs.declared.op.Simple.{Simple}
use Rattle.if1_graph.specs.declared.op.Simple.TheVariants as simple
use Rattle.node_ops.specs.Operands.{node_values}

-- nodes that never need more room
abbrev pub NeedsNoRoom : Simple → Type 0
NeedsNoRoom simple.AReplace = Unit {0}
NeedsNoRoom simple.RReplace = Unit {0}
NeedsNoRoom simple.ARemH = Unit {0}
NeedsNoRoom simple.ARemL = Unit {0}
NeedsNoRoom simple.ASetL = Unit {0}
NeedsNoRoom simple.AAdjust = Unit {0}
NeedsNoRoom simple.RestValues = Unit {0}
NeedsNoRoom _ = ⊥

-- nodes that add elements
abbrev pub AddsElements : Simple → Type 0
AddsElements simple.AAddH = Unit {0}
AddsElements simple.AAddL = Unit {0}
AddsElements simple.ACatenate = Unit {0}
AddsElements _ = ⊥

-- the outputs of such a node on its first operand and the others
abbrev pub values_taken : Simple → Val → List (Option Val) → List Val
values_taken o v ins = node_values o shape.Plain (Some v ∷ ins)
