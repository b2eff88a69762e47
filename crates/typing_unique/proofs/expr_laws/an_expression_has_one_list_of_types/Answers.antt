use Rattle.typing_unique.proofs.ELaws.{one_type_law}
use Rattle.typing_unique.proofs.expr_laws.an_expression_has_one_list_of_types.Goals as goal

pub returns : goal.returns
returns c = one_type_law
