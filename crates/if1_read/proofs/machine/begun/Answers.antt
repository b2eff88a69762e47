use Rattle.std.proofs.Common.{refl}
use Rattle.if1_read.proofs.Going.{nothing_runs}
use Rattle.if1_read.proofs.machine.begun.Goals as goal

pub returns-clause-runs : goal.returns-clause-runs
returns-clause-runs c = λ k. nothing_runs k _ c.new.ensures c.new-2.ensures.items c.new-3.ensures refl
