use Rattle.answer_laws.proofs.Syntaxes.{unit_one}
use Rattle.answer_laws.proofs.Printed.{runs-of-texts}
use Rattle.answer_laws.proofs.source_laws.runs_of_texts_print_what_the_source_gives.Goals as goal

pub returns : goal.returns
returns c = runs-of-texts c.plain_depths_agree.ensures.calls_one_value c.typed_trees_answer_alike.ensures c.words_have_one_meaning.ensures.one_command (unit_one c.one_unit.ensures)
