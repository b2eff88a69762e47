use Rattle.fitting_texts.proofs.Typed.{texts_right}
use Rattle.fitting_texts.proofs.laws.functions_of_texts_meet_what_they_take.Goals as goal

pub returns : goal.returns
returns c = texts_right
