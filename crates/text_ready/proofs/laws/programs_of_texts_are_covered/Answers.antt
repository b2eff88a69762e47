use Rattle.text_ready.proofs.Covered.{texts-covered}
use Rattle.text_ready.proofs.laws.programs_of_texts_are_covered.Goals as goal

pub returns : goal.returns
returns c = texts-covered c.typed_texts_are_bound.ensures c.typed_programs_are_covered.ensures
