use Rattle.run_states.proofs.Stated.{ends-seen}
use Rattle.run_states.proofs.laws.ends_are_seen.Goals as goal

pub returns : goal.returns
returns c = ends-seen
