use Rattle.typing_unique.proofs.ELaws.{one_list_law}
use Rattle.typing_unique.proofs.expr_laws.expressions_have_one_list_of_types.Goals as goal

pub returns : goal.returns
returns c = one_list_law
