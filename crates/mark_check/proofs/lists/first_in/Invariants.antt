use Rattle.std.proofs.Common.{take, All}
use Rattle.if1_graph.specs.declared.graph.Graph.TheViews.{out-Graph}
use Rattle.mark_check.specs.Entries.{IsWrong, entries}
use Rattle.mark_check.proofs.lists.first_in.Given as goal

abbrev pub invariant-loop-at : goal.invariant-loop-at
invariant-loop-at l = All (λ at. ¬ IsWrong l.graph at) (entries (take l.at (out-Graph l.graph).nodes))
