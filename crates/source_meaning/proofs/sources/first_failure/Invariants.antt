use Rattle.std.proofs.Common.{◌≡◌, drop}
use Rattle.meaning.specs.Sources.{first_failure}
use Rattle.source_meaning.proofs.sources.first_failure.Given as goal

abbrev pub invariant-loop-size : goal.invariant-loop-size
invariant-loop-size l = first_failure l.sizes ≡ first_failure (drop l.size-index l.sizes)
