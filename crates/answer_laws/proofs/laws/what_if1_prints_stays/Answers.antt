use Rattle.answer_laws.proofs.Again.{printed_again}
use Rattle.answer_laws.proofs.laws.what_if1_prints_stays.Goals as goal

pub returns : goal.returns
returns c = printed_again c.written_is_read.ensures c.words_have_one_meaning.ensures.one_command c.words_and_texts_have_one_answer.ensures
