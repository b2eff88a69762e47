use Rattle.std.proofs.Common.{take, slice_index, All}
use Rattle.if1_graph.specs.declared.graph.Graph.{Graph}
use Rattle.mark_check.specs.Entries.{IsNetOf, IsWrong}
use Rattle.mark_check.proofs.lists.first_on_list.Given as goal

abbrev pub invariant-loop-label : goal.invariant-loop-label
invariant-loop-label l = (g : Graph) → IsNetOf g l.labels l.lists → All (λ k. ¬ IsWrong g (slice_index l.labels l.at, k)) (take l.label-index l.list)
