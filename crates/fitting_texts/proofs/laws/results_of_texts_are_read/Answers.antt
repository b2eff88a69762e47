use Rattle.fitting_texts.proofs.Results.{results_read}
use Rattle.fitting_texts.proofs.laws.results_of_texts_are_read.Goals as goal

pub returns : goal.returns
returns c = results_read
