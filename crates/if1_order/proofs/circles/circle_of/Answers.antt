use Rattle.std.proofs.Common.{subst}
use Rattle.if1_order.specs.declared.arranged.NodeOrder.{NodeOrder}
use Rattle.if1_order.specs.Orders.{Orders}
use Rattle.if1_order.proofs.Units.{circle_end}
use Rattle.if1_order.proofs.circles.circle_of.Goals as goal

pub returns-in-Circle : goal.returns-in-Circle
returns-in-Circle c =
    λ g orders is.
    let there = subst (λ (o : NodeOrder). Orders g o) c.in-Circle.is orders in
    circle_end g c.args.number c.in-Circle.label is there.0 there.1
