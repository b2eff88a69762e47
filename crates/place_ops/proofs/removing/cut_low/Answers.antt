use Rattle.std.proofs.Common.{rules}
use Rattle.place_ops.proofs.removing.cut_low.Goals as goal

pub returns-in-Some : goal.returns-in-Some
returns-in-Some c = search rules
