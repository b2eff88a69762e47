use Rattle.std.proofs.Common.{take}
use Rattle.if1_components.specs.Backward.{HasBack}
use Rattle.if1_components.proofs.backward.link_back.Given as goal

abbrev pub invariant-loop-other : goal.invariant-loop-other
invariant-loop-other l = HasBack (take l.other-index l.from) l.place l.fn.lists.items l.lists.items
