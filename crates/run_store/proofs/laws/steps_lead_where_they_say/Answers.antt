use Rattle.run_store.proofs.Effects.{do-lead}
use Rattle.run_store.proofs.laws.steps_lead_where_they_say.Goals as goal

pub returns : goal.returns
returns c = do-lead
