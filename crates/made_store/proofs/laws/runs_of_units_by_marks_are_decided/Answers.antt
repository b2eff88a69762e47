use Rattle.made_store.proofs.Marked.{marked-decided}
use Rattle.made_store.proofs.laws.runs_of_units_by_marks_are_decided.Goals as goal

pub returns : goal.returns
returns c = marked-decided
