use Rattle.std.proofs.Common.{◌≡◌, ◌&&◌, ℕ, take}
use Rattle.std.specs.List.{list_any}
use Rattle.if1_graph.specs.declared.graph.Graph.TheViews.{out-Graph}
use Rattle.if1_graph.specs.Ports.{leaves}
use Rattle.if1_marks.specs.Aggregates.{is_aggregate}
use Rattle.output_marks.specs.Outputs.{has_output}
use Rattle.output_marks.proofs.outputs.aggregate_outputs.Given as goal

abbrev pub invariant-loop-edge : goal.invariant-loop-edge
invariant-loop-edge l = (label port : ℕ) → has_output l.outputs label port ≡ list_any (λ e. leaves label port e.from && is_aggregate l.types e.ty) (take l.edge-index (out-Graph l.graph).edges)
