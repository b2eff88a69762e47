use Rattle.made_store.proofs.Marks.{marked-last}
use Rattle.made_store.proofs.laws.takers_by_marks_are_last.Goals as goal

pub returns : goal.returns
returns c = marked-last
