use Rattle.plan_builder.proofs.Made.{call-stands}
use Rattle.plan_builder.proofs.nodes.call_node.Goals as goal

pub returns-clause-stands : goal.returns-clause-stands
returns-clause-stands c D P S g v kind wide fed handled = call-stands D P S g v c.args.callee c.args.width c.args.ins kind wide fed handled
