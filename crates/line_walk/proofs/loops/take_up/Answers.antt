use Rattle.std.proofs.Common.{sym}
use Rattle.line_walk.proofs.Generators.{took_all}
use Rattle.line_walk.proofs.loops.take_up.Goals as goal

pub returns-else-count-carried : goal.returns-else-count-carried
returns-else-count-carried c = sym (took_all c.args.count c.args.carried.now c.if-count-carried.false)
