use Rattle.typing_laws.proofs.Crossed.{a_masked_value}
use Rattle.typing_laws.proofs.laws.a_value_of_a_clause_is_typed.Goals as goal

pub returns : goal.returns
returns c = a_masked_value
