use Rattle.std.proofs.Common.{sym}
use Rattle.lower_nodes.proofs.Lists.{took_all}
use Rattle.lower_nodes.proofs.loops.take_up.Goals as goal

pub returns-else-count-wires : goal.returns-else-count-wires
returns-else-count-wires c = sym (took_all c.args.count c.args.wires.now c.if-count-wires.false)
