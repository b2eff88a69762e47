use Rattle.std.proofs.Common.{subst}
use Rattle.if1_graph.specs.Normal.{IsNormal}
use Rattle.if1_sound.proofs.sound.Sound.unit.Goals as goal

pub returns-clause-normal : goal.returns-clause-normal
returns-clause-normal c = subst IsNormal c.self.view_is c.unit.ensures.normal
