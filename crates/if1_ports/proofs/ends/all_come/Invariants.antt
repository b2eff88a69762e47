use Rattle.std.proofs.Common.{◌≡◌, drop}
use Rattle.if1_ports.specs.Ends.{all_come, count_at}
use Rattle.if1_ports.proofs.ends.all_come.Given as goal

abbrev pub invariant-loop-edge : goal.invariant-loop-edge
invariant-loop-edge l = all_come (count_at l.outs.labels l.outs.counts) l.inputs (drop l.edge-index l.edges) ≡ all_come (count_at l.outs.labels l.outs.counts) l.inputs l.edges
