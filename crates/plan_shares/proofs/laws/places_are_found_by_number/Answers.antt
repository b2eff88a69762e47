use Rattle.plan_shares.proofs.Homes.{places-found}
use Rattle.plan_shares.proofs.laws.places_are_found_by_number.Goals as goal

pub returns : goal.returns
returns c = places-found
