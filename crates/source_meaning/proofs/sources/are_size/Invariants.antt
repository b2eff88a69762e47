use Rattle.std.proofs.Common.{◌≡◌, drop}
use Rattle.meaning.specs.Sources.{are_size}
use Rattle.source_meaning.proofs.sources.are_size.Given as goal

abbrev pub invariant-loop-size : goal.invariant-loop-size
invariant-loop-size l = are_size l.count l.sizes ≡ are_size l.count (drop l.size-index l.sizes)
