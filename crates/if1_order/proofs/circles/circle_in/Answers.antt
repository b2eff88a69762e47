use Rattle.std.proofs.Common.{refl, subst}
use Rattle.if1_order.specs.Rising.{AllLeadOn}
use Rattle.if1_order.proofs.Onward.{none_circles}
use Rattle.if1_order.proofs.circles.circle_in.Goals as goal

pub returns-then-all_lead_on : goal.returns-then-all_lead_on
returns-then-all_lead_on c = none_circles c.args.graph.now (subst AllLeadOn c.as_slice.ensures (c.all_lead_on.ensures c.if-all_lead_on.true))

pub returns : goal.returns
returns c = c.circle_of-at.ensures c.args.graph.now c.in_ok-found.ensures refl
