use Rattle.answer_laws.proofs.Replies.{answers_one}
use Rattle.answer_laws.proofs.laws.words_and_texts_have_one_answer.Goals as goal

pub returns : goal.returns
returns c = answers_one c.one_unit.ensures c.a_unit_that_breaks_a_rule_is_no_program.ensures c.typed_trees_answer_alike.ensures c.a_program_answers_once.ensures c.accepted_has_no_fault.ensures c.an_if1_text_gives_one_unit.ensures c.no_marks_are_sound.ensures c.a_run_answers_once.ensures c.typed_trees_are_lowered_alike.ensures c.graphs_answer_once.ensures c.words_have_one_meaning.ensures.one_command c.words_have_one_meaning.ensures.one_fault c.words_have_one_meaning.ensures.not_both
