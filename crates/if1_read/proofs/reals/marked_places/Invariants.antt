use Rattle.std.specs.Prelude.{List, All}
use Rattle.if1_graph.specs.declared.graph.TypeEntry.{TypeEntry}
use Rattle.if1_read.specs.Spread.{AreTrue, IsRealAt}
use Rattle.if1_read.proofs.reals.marked_places.Given as goal

abbrev pub invariant-loop-place : goal.invariant-loop-place
invariant-loop-place l = (ts : List TypeEntry) → AreTrue ts l.marks → All (IsRealAt ts) l.places.items
