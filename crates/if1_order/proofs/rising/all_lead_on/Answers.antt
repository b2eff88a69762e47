use Rattle.std.proofs.Common.{subst}
use Rattle.std.proofs.lemmas.List.{take_all}
use Rattle.std.proofs.lemmas.List.Elements.{All-more}
use Rattle.if1_order.specs.Rising.{AllLeadOn, LeadsOn}
use Rattle.if1_order.proofs.rising.all_lead_on.Goals as goal

pub loop-edge-preserved : goal.loop-edge-preserved
loop-edge-preserved c =
    All-more LeadsOn c.args.edges.now c.loop-edge.edge-index c.edge-item.result c.loop-edge-test.true c.loop-edge.invariant
    (subst LeadsOn c.edge-item.is (c.leads_on.ensures c.if-not-leads_on.false))

pub returns : goal.returns
returns c = λ so. subst AllLeadOn (take_all c.loop-edge.edge-index c.args.edges.now c.loop-edge-test.false) c.loop-edge.invariant
