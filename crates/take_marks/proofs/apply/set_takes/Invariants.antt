use Rattle.take_marks.specs.Applied.{AreTaken}
use Rattle.take_marks.proofs.apply.set_takes.Given as goal

abbrev pub invariant-loop-index : goal.invariant-loop-index
invariant-loop-index l = AreTaken l.fn.edges.items l.whys l.index l.edges.items
