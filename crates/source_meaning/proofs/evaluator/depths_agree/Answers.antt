use Rattle.source_meaning.proofs.Depths.{greater, one_value}
use Rattle.source_meaning.proofs.evaluator.depths_agree.Goals as goal

pub returns : goal.returns
returns c = record { greater = greater; one_value = one_value }
