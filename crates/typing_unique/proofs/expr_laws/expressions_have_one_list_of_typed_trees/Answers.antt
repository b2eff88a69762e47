use Rattle.typing_unique.proofs.ETreeLaws.{one_typed_list_law}
use Rattle.typing_unique.proofs.expr_laws.expressions_have_one_list_of_typed_trees.Goals as goal

pub returns : goal.returns
returns c = one_typed_list_law
