use Rattle.fitting_texts.proofs.Texts.{texts_fit}
use Rattle.fitting_texts.proofs.laws.programs_of_texts_fit.Goals as goal

pub returns : goal.returns
returns c = texts_fit
