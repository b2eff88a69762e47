use Rattle.meaning_laws.proofs.Agree.{same, calls_same, falls, calls_fall_too}
use Rattle.meaning_laws.proofs.laws.definitions_agree.Goals as goal

pub returns : goal.returns
returns c = record { expressions = same; functions = calls_same; falls = falls; calls_fall = calls_fall_too }
