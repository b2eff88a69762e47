use Rattle.std.proofs.Common.{◌≡◌, ◌∷◌, [], map}
use Rattle.flow_value.specs.declared.value.Val.TheVariants as val
use Rattle.graph_meaning.specs.Carried.{Value}
use Rattle.node_ops.specs.Rows.{field_values}
use Rattle.run_store.specs.Stored as stored
use Rattle.run_cells.specs.Held.{held}
use Rattle.sequential_fire.proofs.parts.split.Given as goal

abbrev pub invariant-loop-place : goal.invariant-loop-place
invariant-loop-place l = map held l.made.items ≡ map stored.Owns (map Value (field_values l.place (val.Rec l.fields ∷ [])))
