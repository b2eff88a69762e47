use Rattle.std.proofs.Common.{◌≡◌, ◌++◌, map}
use Rattle.if1_graph.specs.Ports.{count_from}
use Rattle.output_marks.specs.Outputs.{has_output}
use Rattle.output_marks.proofs.marks.add_each.Given as goal

abbrev pub invariant-loop-place : goal.invariant-loop-place
invariant-loop-place l = l.marks ≡ l.fn.marks ++ map (has_output l.outputs l.label) (count_from 1 l.place)
