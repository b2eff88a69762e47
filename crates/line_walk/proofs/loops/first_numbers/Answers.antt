use Rattle.std.proofs.Common.{sym}
use Rattle.line_walk.proofs.Generators.{took_numbers}
use Rattle.line_walk.proofs.loops.first_numbers.Goals as goal

pub returns-else-count-numbers : goal.returns-else-count-numbers
returns-else-count-numbers c = sym (took_numbers c.args.count c.args.numbers.now c.if-count-numbers.false)
