use Rattle.seen_store.proofs.Made.{seen-decided}
use Rattle.seen_store.proofs.laws.runs_through_paths_are_decided.Goals as goal

pub returns : goal.returns
returns c = seen-decided
