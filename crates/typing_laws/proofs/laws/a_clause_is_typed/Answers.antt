use Rattle.typing_laws.proofs.Crossed.{one_more_made}
use Rattle.typing_laws.proofs.laws.a_clause_is_typed.Goals as goal

pub returns : goal.returns
returns c = one_more_made
