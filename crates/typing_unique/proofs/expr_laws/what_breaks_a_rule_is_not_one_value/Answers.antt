use Rattle.typing_unique.proofs.ELaws.{no_one_law}
use Rattle.typing_unique.proofs.expr_laws.what_breaks_a_rule_is_not_one_value.Goals as goal

pub returns : goal.returns
returns c = no_one_law
