use Rattle.std.proofs.Common.{◌≡◌, ◌==◌, drop, find}
use Rattle.output_marks.proofs.marks.into_first.Given as goal

abbrev pub invariant-loop-edge : goal.invariant-loop-edge
invariant-loop-edge l = find (λ e. e.port == 1) (drop l.edge-index l.edges) ≡ find (λ e. e.port == 1) l.edges
