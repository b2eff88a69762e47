use Rattle.std.proofs.Common.{◌≡◌, map, take}
use Rattle.graph_meaning.specs.Networks.{part}
use Rattle.node_works.proofs.parts.arms.Given as goal

abbrev pub invariant-loop-place : goal.invariant-loop-place
invariant-loop-place l = l.numbers ≡ map (part l.graphs) (take l.place-index l.places)
