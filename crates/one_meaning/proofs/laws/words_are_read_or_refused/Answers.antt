use Rattle.one_meaning.proofs.Words.{words_once}
use Rattle.one_meaning.proofs.laws.words_are_read_or_refused.Goals as goal

pub returns : goal.returns
returns c = words_once c.read_texts_fit.ensures
