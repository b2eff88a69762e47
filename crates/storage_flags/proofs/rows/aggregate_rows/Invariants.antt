use Rattle.std.proofs.Common.{◌≡◌, ◌∷◌, [], map, take}
use Rattle.storage_flags.specs.Flags.{aggregates_of}
use Rattle.storage_flags.proofs.rows.aggregate_rows.Given as goal

abbrev pub invariant-loop-graph : goal.invariant-loop-graph
invariant-loop-graph l = l.rows.items ≡ [] ∷ map (λ g. aggregates_of l.types g.now) (take l.graph-index l.graphs)
