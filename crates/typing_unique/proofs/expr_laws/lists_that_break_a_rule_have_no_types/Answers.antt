use Rattle.typing_unique.proofs.ELaws.{no_list_law}
use Rattle.typing_unique.proofs.expr_laws.lists_that_break_a_rule_have_no_types.Goals as goal

pub returns : goal.returns
returns c = no_list_law
