use Rattle.typing_unique.proofs.UTree.{one_tree_law}
use Rattle.typing_unique.proofs.unit_laws.a_unit_is_one_typed_tree.Goals as goal

pub returns : goal.returns
returns c = one_tree_law
