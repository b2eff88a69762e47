use Rattle.std.proofs.Common.{◌≡◌, ◌∷◌, map, take}
use Rattle.sisal_tree.specs.declared.expr.Constant.TheVariants as constant
use Rattle.lowering.specs.declared.feed.Feed.TheVariants.{Literal}
use Rattle.lowering.specs.declared.feed.Carried.TheVariants.{One}
use Rattle.lowering.specs.Feeds.{wire}
use Rattle.lowering.specs.Operations.{character, one}
use Rattle.lower_nodes.proofs.wiring.letters.Given as goal

abbrev pub invariant-loop-place : goal.invariant-loop-place
invariant-loop-place l = l.wires ≡ one ∷ map (λ c. wire (Literal (constant.Letter c)) (One character)) (take l.place l.text)
