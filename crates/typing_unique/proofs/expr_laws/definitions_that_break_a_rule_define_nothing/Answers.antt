use Rattle.typing_unique.proofs.ELaws.{no_scope_law}
use Rattle.typing_unique.proofs.expr_laws.definitions_that_break_a_rule_define_nothing.Goals as goal

pub returns : goal.returns
returns c = no_scope_law
