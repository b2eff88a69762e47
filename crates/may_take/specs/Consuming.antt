-- Which edges consume, by what is known of the nodes.
use Rattle.std.specs.Prelude.{Bool, ◌&&◌, ℕ, List}
use Rattle.if1_graph.specs.declared.graph.Edge.{Edge}
use Rattle.if1_graph.specs.declared.graph.TypeEntry.{TypeEntry}
use Rattle.if1_marks.specs.Aggregates.{is_aggregate}
use Rattle.may_take.specs.declared.inputs.Inputs.{Inputs}
use Rattle.may_take.specs.declared.uses.NodeUse.{NodeUse}
use Rattle.may_take.specs.Uses.{consumes_inside, consumes_by}

-- other than by a call
abbrev pub is_given_by : List TypeEntry → List ℕ → List NodeUse → Edge → Bool
is_given_by ts labels us e = is_aggregate ts e.ty && consumes_inside labels us e.node e.port

abbrev pub is_consuming_by : List TypeEntry → List Inputs → List ℕ → List NodeUse → Edge → Bool
is_consuming_by ts fs labels us e = is_aggregate ts e.ty && consumes_by fs labels us e.node e.port
