use Rattle.std.proofs.Common.{◌≡◌, length, take}
use Rattle.graph_meaning.specs.Forms.{items}
use Rattle.run_cells.specs.Sights.{seen_value}
use Rattle.sequential_loops.proofs.behind.list_of.Given as goal

abbrev pub invariant-loop-place : goal.invariant-loop-place
invariant-loop-place l = record { end : l.place-end ≡ length (items (seen_value l.multiple)); list : l.list ≡ take l.place (items (seen_value l.multiple)) }
