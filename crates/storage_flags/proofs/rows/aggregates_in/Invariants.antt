use Rattle.std.proofs.Common.{◌≡◌, take}
use Rattle.storage_flags.specs.Flags.{aggregates_in}
use Rattle.storage_flags.proofs.rows.aggregates_in.Given as goal

abbrev pub invariant-loop-edge : goal.invariant-loop-edge
invariant-loop-edge l = l.flags ≡ aggregates_in l.types (take l.edge-index l.edges)
