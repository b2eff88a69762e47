use Rattle.answer_laws.proofs.Syntaxes.{unit_one, unit_refused}
use Rattle.answer_laws.proofs.Answered.{sources-printed}
use Rattle.answer_laws.proofs.source_laws.sources_within_the_limits_are_printed.Goals as goal

pub returns : goal.returns
returns c =
    sources-printed c.plain_depths_agree.ensures.calls_one_value c.typed_trees_answer_alike.ensures c.words_are_read_or_refused.ensures c.words_have_one_meaning.ensures.one_command c.words_have_one_meaning.ensures.not_both
    (unit_one c.one_unit.ensures) (unit_refused c.one_unit.ensures) c.a_unit_that_breaks_a_rule_is_no_program.ensures
