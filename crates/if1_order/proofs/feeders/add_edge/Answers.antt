use Rattle.std.proofs.Common.{arith}
use Rattle.std.proofs.lemmas.Result.{on_ok_weaker}
use Rattle.if1_order.proofs.Orders.{edge_joined, into_boundary, from_boundary, from_literal}
use Rattle.if1_order.proofs.feeders.add_edge.Goals as goal

pub returns-in-Port : goal.returns-in-Port
returns-in-Port c =
    on_ok_weaker c.join.result
    (λ j es w. edge_joined c.args.labels.now es c.args.edge.now c.args.lists.now.items c.join.new.lists.items _ _ c.requires.rising w c.in-Port.is (omega arith) (omega arith) j)
    c.join.ensures

pub returns-in_default : goal.returns-in_default
returns-in_default c = λ es w. into_boundary c.args.labels.now es c.args.edge.now c.args.lists.now.items w (omega arith)

pub returns-in_default-2 : goal.returns-in_default-2
returns-in_default-2 c = λ es w. from_boundary c.args.labels.now es c.args.edge.now c.args.lists.now.items _ _ w c.in-Port.is (omega arith)

pub returns-in_default-3 : goal.returns-in_default-3
returns-in_default-3 c = λ es w. from_literal c.args.labels.now es c.args.edge.now c.args.lists.now.items _ w c.in_default.is
