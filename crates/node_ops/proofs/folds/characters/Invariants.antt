use Rattle.std.proofs.Common.{◌≡◌, ◌++◌, drop}
use Rattle.std.specs.Option.{option_map}
use Rattle.node_ops.specs.Operands.{text_of}
use Rattle.node_ops.proofs.folds.characters.Given as goal

abbrev pub invariant-loop-one : goal.invariant-loop-one
invariant-loop-one l = option_map (λ cs. l.text ++ cs) (text_of (drop l.one-index l.items)) ≡ text_of l.items
