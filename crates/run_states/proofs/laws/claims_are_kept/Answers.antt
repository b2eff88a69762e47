use Rattle.run_states.proofs.Kept.{claim-kept}
use Rattle.run_states.proofs.laws.claims_are_kept.Goals as goal

pub returns : goal.returns
returns c = claim-kept
