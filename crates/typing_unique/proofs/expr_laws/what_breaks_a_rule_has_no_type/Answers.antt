use Rattle.typing_unique.proofs.ELaws.{no_type_law}
use Rattle.typing_unique.proofs.expr_laws.what_breaks_a_rule_has_no_type.Goals as goal

pub returns : goal.returns
returns c = no_type_law
