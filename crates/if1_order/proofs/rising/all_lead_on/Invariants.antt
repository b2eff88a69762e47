use Rattle.std.proofs.Common.{take}
use Rattle.if1_order.specs.Rising.{AllLeadOn}
use Rattle.if1_order.proofs.rising.all_lead_on.Given as goal

abbrev pub invariant-loop-edge : goal.invariant-loop-edge
invariant-loop-edge l = AllLeadOn (take l.edge-index l.edges)
