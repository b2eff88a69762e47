use Rattle.typing_unique.proofs.ETreeLaws.{one_typed_law}
use Rattle.typing_unique.proofs.expr_laws.an_expression_has_one_typed_tree.Goals as goal

pub returns : goal.returns
returns c = one_typed_law
