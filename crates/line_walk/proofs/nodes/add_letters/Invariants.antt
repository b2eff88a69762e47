use Rattle.std.proofs.Common.{◌≡◌, drop, map}
use Rattle.lowering.specs.declared.feed.Carried.TheVariants.{One}
use Rattle.lowering.specs.Operations.{character}
use Rattle.line_labels.specs.Needs.{added}
use Rattle.line_walk.proofs.nodes.add_letters.Given as goal

abbrev pub invariant-loop : goal.invariant-loop
invariant-loop l = added l.needs (map (λ c. One character) (drop l.index l.codes)) ≡ added l.fn.needs (map (λ c. One character) l.codes)
