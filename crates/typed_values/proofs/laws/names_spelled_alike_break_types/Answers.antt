use Rattle.typed_values.proofs.Alike.{names_alike_break}
use Rattle.typed_values.proofs.laws.names_spelled_alike_break_types.Goals as goal

pub returns : goal.returns
returns c = names_alike_break
