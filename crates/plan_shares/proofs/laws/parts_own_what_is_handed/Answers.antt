use Rattle.plan_shares.proofs.OwnedParts.{parts-owned}
use Rattle.plan_shares.proofs.laws.parts_own_what_is_handed.Goals as goal

pub returns : goal.returns
returns c = parts-owned
