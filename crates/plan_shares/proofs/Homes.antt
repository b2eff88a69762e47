-- The place of a graph is found by its number.
use Rattle.unit_plan.proofs.Found.{place-found}
use Rattle.plan_shares.specs.Parts.{ArePlacesFound}

pub places-found : ArePlacesFound
places-found u p formed h = place-found u formed p h
