use Rattle.run_store.proofs.Effects.{effects}
use Rattle.run_store.proofs.laws.steps_are_effects.Goals as goal

pub returns : goal.returns
returns c = effects
