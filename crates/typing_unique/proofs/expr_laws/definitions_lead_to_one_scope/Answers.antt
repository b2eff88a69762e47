use Rattle.typing_unique.proofs.ELaws.{one_scope_law}
use Rattle.typing_unique.proofs.expr_laws.definitions_lead_to_one_scope.Goals as goal

pub returns : goal.returns
returns c = one_scope_law
