use Rattle.std.specs.Prelude.{List, All}
use Rattle.if1_graph.specs.declared.graph.TypeEntry.{TypeEntry}
use Rattle.if1_read.specs.Spread.{KeepsMarks, IsRealAt, AreTrue, LeadsTo}
use Rattle.if1_read.proofs.reals.mark_holders.Given as goal

abbrev pub invariant-loop-at : goal.invariant-loop-at
invariant-loop-at l = record {
  keeps : KeepsMarks l.fn.marks l.marks;
  real : (ts : List TypeEntry) → All (LeadsTo ts) l.pairs → IsRealAt ts l.part → AreTrue ts l.fn.marks → AreTrue ts l.marks;
  todo : (ts : List TypeEntry) → All (LeadsTo ts) l.pairs → IsRealAt ts l.part → All (IsRealAt ts) l.fn.todo.items → All (IsRealAt ts) l.todo.items;
}
