use Rattle.lowering_meaning.proofs.Alone.{typed-covered}
use Rattle.lowering_meaning.proofs.laws.typed_programs_are_covered.Goals as goal

pub returns : goal.returns
returns c = typed-covered
