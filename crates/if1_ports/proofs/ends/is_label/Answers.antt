use Rattle.if1_order.proofs.Orders.{not_found}
use Rattle.if1_ports.proofs.ends.is_label.Goals as goal

pub returns-in-Err : goal.returns-in-Err
returns-in-Err c = not_found c.args.labels.now c.args.label c.in-Err.field-0 c.requires c.in-Err.ensures.position
