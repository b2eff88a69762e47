use Rattle.source_meaning.proofs.Descents.{falls, rises}
use Rattle.source_meaning.proofs.evaluator.turns_agree.Goals as goal

pub returns : goal.returns
returns c = record { falls = falls; rises = rises }
