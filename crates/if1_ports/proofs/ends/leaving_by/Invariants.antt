use Rattle.std.proofs.Common.{◌≡◌, map, take}
use Rattle.if1_ports.specs.Ends.{leaving}
use Rattle.if1_ports.proofs.ends.leaving_by.Given as goal

abbrev pub invariant-loop-edge : goal.invariant-loop-edge
invariant-loop-edge l = l.lists.items ≡ map (leaving (take l.edge-index l.edges)) l.labels
