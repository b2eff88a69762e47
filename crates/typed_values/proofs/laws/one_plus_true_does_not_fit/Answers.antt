use Rattle.typed_values.proofs.NoTree.{no_tree, no_operands}
use Rattle.typed_values.proofs.laws.one_plus_true_does_not_fit.Goals as goal

pub returns : goal.returns
returns c = record { no_tree = no_tree; no_row = no_operands }
