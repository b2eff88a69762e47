use Rattle.text_meaning.proofs.Runs.{texts-meant}
use Rattle.text_meaning.proofs.laws.texts_that_give_values_are_run.Goals as goal

pub returns : goal.returns
returns c = texts-meant c.marked_units_of_texts_are_ready.ensures
