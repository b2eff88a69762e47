use Rattle.made_store.proofs.Owners.{takers-owned}
use Rattle.made_store.proofs.laws.takers_by_marks_are_owned.Goals as goal

pub returns : goal.returns
returns c = takers-owned
