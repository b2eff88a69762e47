use Rattle.std.proofs.Common.{inr, refl}
use Rattle.if1_order.proofs.Orders.{not_found}
use Rattle.if1_ports.proofs.ends.note.Goals as goal

pub returns-in-Err : goal.returns-in-Err
returns-in-Err c = inr (refl, not_found c.args.labels.now c.args.from c.in-Err.field-0 c.requires.rising c.in-Err.ensures.position)
