use Rattle.lowered_ready.proofs.Places.{all-shaped}
use Rattle.lowered_ready.proofs.place_laws.places_stand_as_lowered.Goals as goal

pub returns : goal.returns
returns c = λ p u t. all-shaped p u t
