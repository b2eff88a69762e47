use Rattle.std.proofs.Common.{sym, ◌∙◌}
use Rattle.breaking_laws.proofs.PTwice.{stands_twice}
use Rattle.sisal_check.proofs.defs.distinct.Goals as goal

pub returns-in-Some-clause-breaks : goal.returns-in-Some-clause-breaks
returns-in-Some-clause-breaks c = stands_twice c.args.names.now c.in-Some.line (sym c.in_ok-line.ensures.line ∙ c.in-Some.is)
