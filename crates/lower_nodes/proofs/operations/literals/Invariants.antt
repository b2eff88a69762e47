use Rattle.std.proofs.Common.{◌≡◌, map, take}
use Rattle.lowering.specs.declared.feed.Feed.TheVariants.{Literal}
use Rattle.lowering.specs.declared.feed.Carried.TheVariants.{One}
use Rattle.lowering.specs.Feeds.{wire}
use Rattle.lower_nodes.proofs.operations.literals.Given as goal

abbrev pub invariant-loop-place : goal.invariant-loop-place
invariant-loop-place l = l.wires ≡ map (λ t. wire (Literal l.constant) (One t)) (take l.place l.types)
