use Rattle.std.proofs.Common.{sym}
use Rattle.sequential_loops.proofs.Lists.{rising-long}
use Rattle.sequential_loops.proofs.lengths.risen.Goals as goal

pub returns-clause-places : goal.returns-clause-places
returns-clause-places c = sym (rising-long c.args.lo c.args.many)
