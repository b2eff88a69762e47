use Rattle.std.proofs.Common.{drop}
use Rattle.gapped.specs.Spread.{AreNone}
use Rattle.gapped.proofs.gapped.are_none.Given as goal

abbrev pub invariant-loop-gap : goal.invariant-loop-gap
invariant-loop-gap l = AreNone (drop l.gap-index l.gaps) → AreNone l.gaps
