use Rattle.if1_fits.specs.Views.{carried_at}
use Rattle.if1_fits.proofs.Walks.{NoneFits}
use Rattle.if1_fits.proofs.wants.some_tag_fits.Given as goal

abbrev pub invariant-loop-edge : goal.invariant-loop-edge
invariant-loop-edge l = NoneFits l.sorts.shapes (carried_at l.sorts.labels l.sorts.numbers l.edges) l.tags l.edges l.edge-index
