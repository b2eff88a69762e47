use Rattle.answer_laws.proofs.Complete.{complete}
use Rattle.answer_laws.proofs.laws.results_are_printed.Goals as goal

pub returns : goal.returns
returns c = complete c.words_and_texts_have_one_answer.ensures
