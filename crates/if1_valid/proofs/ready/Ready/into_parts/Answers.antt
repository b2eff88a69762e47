use Rattle.std.proofs.Common.{subst}
use Rattle.if1_graph.specs.Normal.{IsNormal}
use Rattle.if1_valid.proofs.ready.Ready.into_parts.Goals as goal

pub returns-clause-normal : goal.returns-clause-normal
returns-clause-normal c = subst IsNormal c.self.view_is c.self.invariant.1
