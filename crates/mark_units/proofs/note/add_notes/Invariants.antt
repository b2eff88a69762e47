use Rattle.std.proofs.Common.{◌≡◌, ◌++◌, drop}
use Rattle.std.specs.Vec.Iter.{into_iter_items}
use Rattle.mark_units.specs.Notes.{noted}
use Rattle.mark_units.proofs.note.add_notes.Given as goal

abbrev pub invariant-loop-edge : goal.invariant-loop-edge
invariant-loop-edge l = l.notes ++ noted l.graph (drop l.edge-index l.edges) (into_iter_items l.rest) ≡ l.initial.notes ++ noted l.graph l.edges l.fn.whys
