use Rattle.seen_store.proofs.Seeing.{seen-stored}
use Rattle.seen_store.proofs.laws.code_may_be_read_through_paths.Goals as goal

pub returns : goal.returns
returns c = seen-stored
