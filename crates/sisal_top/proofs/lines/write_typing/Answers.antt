use Rattle.std.proofs.Common.{sym}
use Rattle.sisal_top.proofs.lines.write_typing.Goals as goal

pub returns-clause-takes : goal.returns-clause-takes
returns-clause-takes g c = rw (sym c.from.ensures, sym c.from-2.ensures) c.write_placed.ensures.takes
