use Rattle.std.proofs.Common.{◌≡◌, ◌⊎◌, take, All, Contains}
use Rattle.if1_ports.proofs.ends.missing_node.Given as goal

abbrev pub invariant-loop-edge : goal.invariant-loop-edge
invariant-loop-edge l = All (λ e. (e.node ≡ 0) ⊎ Contains l.labels e.node) (take l.edge-index l.edges)
